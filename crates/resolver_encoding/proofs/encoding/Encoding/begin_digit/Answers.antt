use Rattle.std.proofs.Common.{◌≡◌, ◌∙◌, refl, sym, ap, subst, arith, All, Contains, List, false}
use Rattle.std.specs.Prelude.{Some, slice_get, ⊤}
use Rattle.std.proofs.lemmas.List.Elements.{All-nil}
use Rattle.resolver_clause_store.specs.declared.ClauseKind.TheVariants.{Implies}
use Rattle.resolver_clause_store.specs.declared.Helper.TheVariants.{Bit}
use Rattle.resolver_clause_store.proofs.SetLemmas.{All-done}
use Rattle.resolver_encoding.specs.Encodings.{coding_for}
use Rattle.resolver_encoding.specs.Groups.{Groups, IsAt}
use Rattle.resolver_encoding.specs.Notes.{notes_in}
use Rattle.resolver_encoding.proofs.EncodingLemmas.{IsStep-same, IsStep-trans, clause_listed}
use Rattle.resolver_encoding.proofs.NoteLemmas.{All-grown}
use Rattle.resolver_encoding.proofs.SeeLemmas.{IsStep-begun, digit_begun, place_of_item}
use Rattle.resolver_encoding.proofs.TurnLemmas.{AddsPlainly-clause}
use Rattle.resolver_encoding.proofs.RoomLemmas.{KeepsRoom-same, KeepsRoom-trans}
use Rattle.resolver_encoding.proofs.encoding.Encoding.begin_digit.Goals as goal

pub loop-other-init : goal.loop-other-init
loop-other-init g c = record {
  room = KeepsRoom-same _;
  step = IsStep-same (g.D.Interner.universe c.args.provider.now) (coding_for c.args.name c.args.number c.args.solvable) (λ root. ⊤) (notes_in c.args.self.now);
  begun = All-nil (λ t. Contains (notes_in c.args.self.now).kinds (Implies t (Bit c.args.name c.in-Some.index) false));
  groups = refl;
  plain = refl;
}

pub loop-other-preserved : goal.loop-other-preserved
loop-other-preserved g c =
    let u = g.D.Interner.universe c.args.provider.now in
    let n = c.args.name in
    let k = c.args.number in
    let s = c.args.solvable in
    let i = c.in-Some.index in
    let list = c.deref-other-items.result.now in
    let t = c.other-item.result in
    let j = c.loop-other.other-index in
    let before = c.loop-other.invariant in
    let old = notes_in c.loop-other.self in
    let new = notes_in c.add.new.self in
    let At : Groups g.row.N.Denot g.row.S.Denot → Type 0 = λ gs. IsAt gs n j t in
    let Placed : List g.row.S.Denot → Type 0 = λ xs. slice_get xs j ≡ Some t in
    let at = c.named.ensures.each j t (subst Placed (c.deref-other-items.ensures.value ∙ c.in_ok-earlier.ensures.items)
    (place_of_item list j t (omega arith) c.other-item.is)) in
    let adds = c.in_ok-add.ensures.added u refl in
    let step = IsStep-begun u g.N.PartialEq.eq g.S.PartialEq.eq g.met.D.Interner.names_are_values g.met.D.Interner.solvables_are_values n k s old new i j t adds
    c.in-Some.ensures
    (c.requires.below j t at) (subst At (sym before.groups) at) in
    record {
      room = KeepsRoom-trans _ _ _ before.room c.add.ensures.room;
      step = IsStep-trans u (coding_for n k s) (λ root. ⊤) _ _ _ before.step step;
      begun = All-grown (λ x. Contains old.kinds (Implies x (Bit n i) false)) (λ x. Contains new.kinds (Implies x (Bit n i) false)) list j t (λ y h.
          step.growth.kinds _ h) (omega arith) c.other-item.is before.begun (clause_listed u old new _ adds);
      groups = ap (λ x. x.groups) adds.is ∙ before.groups;
      plain = AddsPlainly-clause u old new _ (λ j. refl) adds ∙ before.plain;
    }

pub returns-clause-begun : goal.returns-clause-begun
returns-clause-begun g c =
    let kinds = (notes_in c.loop-other.self).kinds in
    let n = c.args.name in
    let index = c.in-Some.index in
    let Begun : List g.row.S.Denot → Type 0 = λ list. All (λ t. Contains kinds (Implies t (Bit n index) false)) list in
    let all = subst Begun (c.deref-other-items.ensures.value ∙ c.in_ok-earlier.ensures.items)
    (All-done (λ t. Contains kinds (Implies t (Bit n index) false)) c.deref-other-items.result.now c.loop-other.other-index (omega arith)
    c.loop-other.invariant.begun) in
    λ i begins k t at. digit_begun kinds n c.named.result.now c.args.number index i k t all c.in-Some.ensures begins
    (c.named.ensures.every k t at) (c.requires.below k t at)
