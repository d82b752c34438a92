use Rattle.std.proofs.Common.{◌∙◌, ◌≡◌, sym, subst, arith, Contains, List, refl}
use Rattle.std.specs.Prelude.{⊤}
use Rattle.std.proofs.lemmas.List.Elements.{All-contains, All-nil}
use Rattle.resolver_clause_store.specs.declared.ClauseKind.TheVariants.{Excluded}
use Rattle.resolver_encoding.specs.Encodings.{owing_for}
use Rattle.resolver_encoding.specs.Notes.{notes_in}
use Rattle.resolver_clause_store.proofs.SetLemmas.{All-done, Contains-item}
use Rattle.resolver_encoding.proofs.EncodingLemmas.{IsStep-same, IsStep-trans}
use Rattle.resolver_encoding.proofs.NoteLemmas.{All-grown}
use Rattle.resolver_encoding.proofs.RoomLemmas.{KeepsRoom-same, KeepsRoom-trans}
use Rattle.resolver_encoding.proofs.encoding.Encoding.restore_exclusions.Goals as goal

pub loop-other-init : goal.loop-other-init
loop-other-init g c = record {
  room = KeepsRoom-same _;
  step = IsStep-same (g.D.Interner.universe c.args.provider.now) (owing_for c.args.solvable) (λ root. ⊤) (notes_in c.args.self.now);
  plain = refl;
  restored = All-nil (λ e. e.0 ≡ c.args.solvable → (Contains (notes_in c.args.self.now).exempt c.args.solvable → ⊥) →
      Contains (notes_in c.args.self.now).kinds (Excluded e.0 e.1));
}

pub restore_exclusion-requires-clause-named : goal.restore_exclusion-requires-clause-named
restore_exclusion-requires-clause-named g c =
    let u = g.D.Interner.universe c.args.provider.now in
    let inside = Contains-item c.args.excluded.now c.loop-other.other-index c.loop-other-item.result (omega arith) c.loop-other-item.is in
    let law = (g.met.D.DependencyProvider.lawful_packages c.args.provider.now).packages c.args.name in
    let Has : List _ → Type 0 = λ list. Contains list c.loop-other-item.result in
    All-contains (λ e. u.name e.0 ≡ c.args.name) (u.package_named c.args.name).excluded c.loop-other-item.result law.excluded
    (subst Has c.requires.excluded inside)

pub restore_exclusion-requires-clause-asked : goal.restore_exclusion-requires-clause-asked
restore_exclusion-requires-clause-asked g c =
    let Has : List g.row.N.Denot → Type 0 = λ list. Contains list c.args.name in
    subst Has (sym c.loop-other.invariant.step.asked) c.requires.asked

pub restore_exclusion-requires-clause-excluded : goal.restore_exclusion-requires-clause-excluded
restore_exclusion-requires-clause-excluded g c =
    let Has : List _ → Type 0 = λ list. Contains list c.loop-other-item.result in
    subst Has c.requires.excluded (Contains-item c.args.excluded.now c.loop-other.other-index c.loop-other-item.result (omega arith) c.loop-other-item.is)

pub loop-other-preserved : goal.loop-other-preserved
loop-other-preserved g c =
    let u = g.D.Interner.universe c.args.provider.now in
    let before = c.loop-other.invariant in
    let step = c.in_ok-restore_exclusion.ensures.step in
    let s = c.args.solvable in
    let Free : List _ → Type 0 = λ list. c.loop-other-item.result.0 ≡ s → (Contains list s → ⊥) →
    Contains (notes_in c.restore_exclusion.new.self).kinds (Excluded c.loop-other-item.result.0 c.loop-other-item.result.1) in
    record {
      room = KeepsRoom-trans _ _ _ before.room c.restore_exclusion.ensures.room;
      step = IsStep-trans u (owing_for s) (λ root. ⊤) _ _ _ before.step step;
      plain = c.in_ok-restore_exclusion.ensures.plain ∙ before.plain;
      restored = All-grown (λ e. e.0 ≡ s → (Contains (notes_in c.args.self.now).exempt s → ⊥) →
          Contains (notes_in c.loop-other.self).kinds (Excluded e.0 e.1)) (λ e.
          e.0 ≡ s → (Contains (notes_in c.args.self.now).exempt s → ⊥) →
          Contains (notes_in c.restore_exclusion.new.self).kinds
          (Excluded e.0 e.1)) c.args.excluded.now c.loop-other.other-index c.loop-other-item.result (λ y h is free. step.growth.kinds _ (h is free))
          (omega arith) c.loop-other-item.is before.restored (subst Free before.step.growth.exempt c.in_ok-restore_exclusion.ensures.restored);
    }

pub returns-clause-restored : goal.returns-clause-restored
returns-clause-restored g c = All-done (λ e.
    e.0 ≡ c.args.solvable → (Contains (notes_in c.args.self.now).exempt c.args.solvable → ⊥) →
    Contains (notes_in c.loop-other.self).kinds (Excluded e.0 e.1)) c.args.excluded.now c.loop-other.other-index (omega arith) c.loop-other.invariant.restored
