use Rattle.std.proofs.Common.{◌∙◌, ◌≡◌, subst, arith, Contains, List, refl}
use Rattle.std.specs.Prelude.{⊤}
use Rattle.std.proofs.lemmas.List.Elements.{All-contains, All-nil}
use Rattle.resolver_clause_store.specs.declared.ClauseKind.TheVariants.{Excluded}
use Rattle.resolver_encoding.specs.Encodings.{asking_for}
use Rattle.resolver_encoding.specs.Notes.{notes_in}
use Rattle.resolver_clause_store.proofs.SetLemmas.{All-done, Contains-item}
use Rattle.resolver_encoding.proofs.EncodingLemmas.{IsStep-same, IsStep-trans}
use Rattle.resolver_encoding.proofs.NoteLemmas.{All-grown}
use Rattle.resolver_clause_store.proofs.ListLemmas.{Contains-here as here}
use Rattle.resolver_encoding.proofs.RoomLemmas.{KeepsRoom-same, KeepsRoom-trans}
use Rattle.resolver_encoding.proofs.encoding.Encoding.exclude_each.Goals as goal

pub loop-solvable-init : goal.loop-solvable-init
loop-solvable-init g c = record {
  room = KeepsRoom-same _;
  step = IsStep-same (g.D.Interner.universe c.args.provider.now) (asking_for c.args.name) (λ root. ⊤) (notes_in c.args.self.now);
  read = All-nil (λ e. (Contains (notes_in c.args.self.now).exempt e.0 → ⊥) → Contains (notes_in c.args.self.now).kinds (Excluded e.0 e.1));
  plain = refl;
}

pub exclude-requires-clause-named : goal.exclude-requires-clause-named
exclude-requires-clause-named g c =
    let u = g.D.Interner.universe c.args.provider.now in
    let inside = Contains-item c.args.excluded.now c.loop-solvable.solvable-index c.loop-solvable-item.result (omega arith) c.loop-solvable-item.is in
    let law = (g.met.D.DependencyProvider.lawful_packages c.args.provider.now).packages c.args.name in
    let Has : List _ → Type 0 = λ list. Contains list c.loop-solvable-item.result in
    All-contains (λ e. u.name e.0 ≡ c.args.name) (u.package_named c.args.name).excluded c.loop-solvable-item.result law.excluded
    (subst Has c.requires.excluded inside)

pub exclude-requires-clause-excluded : goal.exclude-requires-clause-excluded
exclude-requires-clause-excluded g c =
    let Has : List _ → Type 0 = λ list. Contains list c.loop-solvable-item.result in
    subst Has c.requires.excluded (Contains-item c.args.excluded.now c.loop-solvable.solvable-index c.loop-solvable-item.result
    (omega arith) c.loop-solvable-item.is)

pub loop-solvable-preserved : goal.loop-solvable-preserved
loop-solvable-preserved g c =
    let u = g.D.Interner.universe c.args.provider.now in
    let before = c.loop-solvable.invariant in
    let step = c.in_ok-exclude.ensures.step (asking_for c.args.name) (here c.args.name _) in
    let Free : List _ → Type 0 = λ list. (Contains list c.loop-solvable-item.result.0 → ⊥) →
    Contains (notes_in c.exclude.new.self).kinds (Excluded c.loop-solvable-item.result.0 c.loop-solvable-item.result.1) in
    record {
      room = KeepsRoom-trans _ _ _ before.room c.exclude.ensures.room;
      step = IsStep-trans u (asking_for c.args.name) (λ root. ⊤) _ _ _ before.step step;
      read = All-grown (λ e. (Contains (notes_in c.args.self.now).exempt e.0 → ⊥) → Contains (notes_in c.loop-solvable.self).kinds (Excluded e.0 e.1)) (λ e.
          (Contains (notes_in c.args.self.now).exempt e.0 → ⊥) →
          Contains (notes_in c.exclude.new.self).kinds
          (Excluded e.0 e.1)) c.args.excluded.now c.loop-solvable.solvable-index c.loop-solvable-item.result (λ y h free. step.growth.kinds _ (h free))
          (omega arith) c.loop-solvable-item.is before.read (subst Free before.step.growth.exempt c.in_ok-exclude.ensures.forbidden);
      plain = c.in_ok-exclude.ensures.plain ∙ before.plain;
    }

pub returns-clause-read : goal.returns-clause-read
returns-clause-read g c = All-done (λ e.
    (Contains (notes_in c.args.self.now).exempt e.0 → ⊥) →
    Contains (notes_in c.loop-solvable.self).kinds (Excluded e.0 e.1)) c.args.excluded.now c.loop-solvable.solvable-index
    (omega arith) c.loop-solvable.invariant.read
