-- Equality of version sets, and of their ids.
use Rattle.std.proofs.Common.{◌≡◌, ℕ, Bool, true, false, refl, ap, ◌∙◌}
use Rattle.std.specs.Prelude.{◌==◌, ◌&&◌}
use Rattle.std.specs.Bool.{Decides}
use Rattle.std.proofs.lemmas.Bool.{eqb-true, eq-eqb, and_from}
use Rattle.resolver_clause_store.specs.declared.ids.VersionSetId.{VersionSetId}
use Rattle.resolve.specs.declared.ids.VersionSet.{VersionSet}
use Rattle.resolve.specs.declared.ids.Range.{Range}
use Rattle.resolve.specs.declared.ids.Range.TheVariants.{All, Within}
use Rattle.resolve.specs.declared.ids.NameId.{NameId}
use Rattle.resolve.specs.contracts.ids.VersionSetPartialEq.TheImpl.{eq-value}

pub version_set_ids-Decides : (a b : VersionSetId) → Decides (a.0 == b.0) (a ≡ b)
version_set_ids-Decides a b = (
  λ e.
      ap (λ (k : ℕ). let v : VersionSetId = record { 0 = k } in v) (eqb-true a.0 b.0 e),
  λ e. eq-eqb a.0 b.0 (ap (λ (v : VersionSetId). v.0) e),
)

both-of : (p q : Bool) → (p && q) ≡ true → (p ≡ true) × (q ≡ true)
both-of true q e = (refl, e)
both-of false q e = absurd cc

version_sets-by_range : (n m : NameId) (r s : Range) →
    Decides (eq-value.it (record { name = n; range = r }) (record { name = m; range = s }))
    (◌≡◌ {A = VersionSet} (record { name = n; range = r }) (record { name = m; range = s }))
version_sets-by_range n m All All = (
  λ e. ap (λ (k : ℕ). let v : VersionSet = record { name = record { 0 = k }; range = All } in v) (eqb-true n.0 m.0 (both-of (n.0 == m.0) true e).0),
  λ e. and_from (n.0 == m.0) true (eq-eqb n.0 m.0 (ap (λ (v : VersionSet). v.name.0) e)) refl,
)
version_sets-by_range n m All (Within l h) = (
  λ e. absurd (let no : false ≡ true = (both-of (n.0 == m.0) false e).1 in cc),
  λ e. absurd (let no : All ≡ Within l h = ap (λ (v : VersionSet). v.range) e in cc),
)
version_sets-by_range n m (Within l h) All = (
  λ e. absurd (let no : false ≡ true = (both-of (n.0 == m.0) false e).1 in cc),
  λ e. absurd (let no : Within l h ≡ All = ap (λ (v : VersionSet). v.range) e in cc),
)
version_sets-by_range n m (Within l h) (Within l' h') = (
  λ e.
      let parts : (n.0 == m.0 ≡ true) × ((l == l') && (h == h') ≡ true) = both-of (n.0 == m.0) ((l == l') && (h == h')) e in
      let ends : (l == l' ≡ true) × (h == h' ≡ true) = both-of (l == l') (h == h') parts.1 in
      ap (λ (k : ℕ). let v : VersionSet = record { name = record { 0 = k }; range = Within l h } in v) (eqb-true n.0 m.0 parts.0)
      ∙ (ap (λ (k : ℕ). let v : VersionSet = record { name = m; range = Within k h } in v) (eqb-true l l' ends.0)
      ∙ ap (λ (k : ℕ). let v : VersionSet = record { name = m; range = Within l' k } in v) (eqb-true h h' ends.1)),
  λ e.
      let ranges : Within l h ≡ Within l' h' = ap (λ (v : VersionSet). v.range) e in
      let low : l ≡ l' = cc in
      let high : h ≡ h' = cc in
      and_from (n.0 == m.0) ((l == l') && (h == h')) (eq-eqb n.0 m.0 (ap (λ (v : VersionSet). v.name.0) e))
      (and_from (l == l') (h == h') (eq-eqb l l' low) (eq-eqb h h' high)),
)

pub version_sets-Decides : (a b : VersionSet) → Decides (eq-value.it a b) (a ≡ b)
version_sets-Decides a b = version_sets-by_range a.name b.name a.range b.range
