use Rattle.std.proofs.Common.{◌≡◌, ◌∙◌, ℕ, refl, ap, arith, Bool, Contains, true}
use Rattle.std.specs.Prelude.{⊤}
use Rattle.std.proofs.lemmas.List.Elements.{All-contains, All-nil}
use Rattle.resolver_clause_store.specs.declared.ClauseKind.TheVariants.{Implies}
use Rattle.resolver_encoding.specs.Encodings.{idle}
use Rattle.resolver_encoding.specs.Notes.{notes_in}
use Rattle.resolver_encoding.specs.Truth.{follows}
use Rattle.resolver_clause_store.proofs.SetLemmas.{All-done, Contains-item}
use Rattle.resolver_encoding.proofs.EncodingLemmas.{IsStep-same, IsStep-trans, clause_listed}
use Rattle.resolver_encoding.proofs.NoteLemmas.{All-grown, IsStep-implied}
use Rattle.resolver_encoding.proofs.RoomLemmas.{KeepsRoom-same, KeepsRoom-trans}
use Rattle.resolver_encoding.proofs.encoding.Encoding.imply_each.Goals as goal

pub loop-candidate-init : goal.loop-candidate-init
loop-candidate-init g c = record {
  room = KeepsRoom-same _;
  step = IsStep-same (g.D.Interner.universe c.args.provider.now) idle (λ root. ⊤) (notes_in c.args.self.now);
  implied = All-nil (λ s. Contains (notes_in c.args.self.now).kinds (Implies s c.args.helper true));
  helped = refl;
  constrained = refl;
}

pub loop-candidate-preserved : goal.loop-candidate-preserved
loop-candidate-preserved g c =
    let u = g.D.Interner.universe c.args.provider.now in
    let h = c.args.helper in
    let s = c.candidate-item.result in
    let list = c.args.candidates.now in
    let before = c.loop-candidate.invariant in
    let old = notes_in c.loop-candidate.self in
    let new = notes_in c.add.new.self in
    let Follows : g.row.S.Denot → Type 0 = λ x. (codes : g.row.N.Denot → ℕ → g.row.S.Denot → Bool) → follows u codes h x ≡ true in
    let follow = All-contains Follows list s c.requires.follow
    (Contains-item list c.loop-candidate.candidate-index s (omega arith) c.candidate-item.is) in
    let adds = c.in_ok-add.ensures.added u refl in
    let step = IsStep-implied u old new s h c.requires.no_bit adds follow in
    record {
      room = KeepsRoom-trans _ _ _ before.room c.add.ensures.room;
      step = IsStep-trans u idle (λ root. ⊤) _ _ _ before.step step;
      implied = All-grown (λ t. Contains old.kinds (Implies t h true)) (λ t. Contains new.kinds (Implies t h true)) list
          c.loop-candidate.candidate-index s (λ y k. step.growth.kinds _ k) (omega arith) c.candidate-item.is before.implied
          (clause_listed u old new _ adds);
      helped = ap (λ n. n.helped) adds.is ∙ before.helped;
      constrained = ap (λ n. n.constrained) adds.is ∙ before.constrained;
    }

pub returns-clause-implied : goal.returns-clause-implied
returns-clause-implied g c = All-done (λ t. Contains (notes_in c.loop-candidate.self).kinds (Implies t c.args.helper true)) c.args.candidates.now
    c.loop-candidate.candidate-index (omega arith) c.loop-candidate.invariant.implied
