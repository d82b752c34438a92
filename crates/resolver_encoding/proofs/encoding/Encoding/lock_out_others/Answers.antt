use Rattle.std.proofs.Common.{◌≡◌, ◌∙◌, sym, subst, arith, Contains, List, refl}
use Rattle.std.specs.Prelude.{⊤}
use Rattle.std.proofs.lemmas.List.Elements.{All-nil}
use Rattle.resolver_clause_store.specs.declared.ClauseKind.TheVariants.{Lock}
use Rattle.resolver_encoding.specs.Encodings.{asking_for}
use Rattle.resolver_encoding.specs.Notes.{notes_in}
use Rattle.resolver_clause_store.proofs.SetLemmas.{All-done, Contains-item}
use Rattle.resolver_encoding.proofs.EncodingLemmas.{IsStep-same, IsStep-trans}
use Rattle.resolver_encoding.proofs.NoteLemmas.{All-grown}
use Rattle.resolver_clause_store.proofs.ListLemmas.{Contains-here as here}
use Rattle.resolver_encoding.proofs.RoomLemmas.{KeepsRoom-same, KeepsRoom-trans}
use Rattle.resolver_encoding.proofs.encoding.Encoding.lock_out_others.Goals as goal

pub loop-candidate-init : goal.loop-candidate-init
loop-candidate-init g c = record {
  room = KeepsRoom-same _;
  step = IsStep-same (g.D.Interner.universe c.args.provider.now) (asking_for c.args.name) (λ root. ⊤) (notes_in c.args.self.now);
  forbidden = All-nil (λ s. (s ≡ c.in-Some.locked → ⊥) → (Contains (notes_in c.args.self.now).exempt s → ⊥) →
      Contains (notes_in c.args.self.now).kinds (Lock c.in-Some.locked s));
  plain = refl;
}

pub lock_out-requires-clause-named : goal.lock_out-requires-clause-named
lock_out-requires-clause-named g c =
    let Has : List g.row.S.Denot → Type 0 = λ list. Contains list c.candidate-item.result in
    ((g.met.D.DependencyProvider.lawful_packages c.args.provider.now).packages c.args.name).listed c.candidate-item.result
    (subst Has c.requires.listed (Contains-item c.args.listed.now c.loop-candidate.candidate-index c.candidate-item.result (omega arith) c.candidate-item.is))

pub lock_out-requires-clause-lock : goal.lock_out-requires-clause-lock
lock_out-requires-clause-lock g c = sym c.requires.locked ∙ c.in-Some.is

pub lock_out-requires-clause-listed : goal.lock_out-requires-clause-listed
lock_out-requires-clause-listed g c =
    let Has : List g.row.S.Denot → Type 0 = λ list. Contains list c.candidate-item.result in
    subst Has c.requires.listed (Contains-item c.args.listed.now c.loop-candidate.candidate-index c.candidate-item.result (omega arith) c.candidate-item.is)

pub loop-candidate-preserved : goal.loop-candidate-preserved
loop-candidate-preserved g c =
    let u = g.D.Interner.universe c.args.provider.now in
    let t = c.in-Some.locked in
    let before = c.loop-candidate.invariant in
    let step = c.in_ok-lock_out.ensures.step (asking_for c.args.name) (here c.args.name _) in
    let Free : List g.row.S.Denot → Type 0 = λ list. (c.candidate-item.result ≡ t → ⊥) → (Contains list c.candidate-item.result → ⊥) →
    Contains (notes_in c.lock_out.new.self).kinds (Lock t c.candidate-item.result) in
    record {
      room = KeepsRoom-trans _ _ _ before.room c.lock_out.ensures.room;
      step = IsStep-trans u (asking_for c.args.name) (λ root. ⊤) _ _ _ before.step step;
      forbidden = All-grown (λ s. (s ≡ t → ⊥) → (Contains (notes_in c.args.self.now).exempt s → ⊥) →
          Contains (notes_in c.loop-candidate.self).kinds (Lock t s)) (λ s.
          (s ≡ t → ⊥) → (Contains (notes_in c.args.self.now).exempt s → ⊥) →
          Contains (notes_in c.lock_out.new.self).kinds
          (Lock t s)) c.args.listed.now c.loop-candidate.candidate-index c.candidate-item.result (λ y h apart free. step.growth.kinds _ (h apart free))
          (omega arith) c.candidate-item.is before.forbidden (subst Free before.step.growth.exempt c.in_ok-lock_out.ensures.forbidden);
      plain = c.in_ok-lock_out.ensures.plain ∙ before.plain;
    }

pub returns-clause-read : goal.returns-clause-read
returns-clause-read g c =
    let t = c.in-Some.locked in
    rw c.in-Some.is (All-done (λ s.
    (s ≡ t → ⊥) → (Contains (notes_in c.args.self.now).exempt s → ⊥) →
    Contains (notes_in c.loop-candidate.self).kinds (Lock t s)) c.args.listed.now c.loop-candidate.candidate-index
    (omega arith) c.loop-candidate.invariant.forbidden)
