-- A catalog keeps the laws of a provider.
use Rattle.std.proofs.Common.{◌≡◌, ◌≢◌, ℕ, ◌<◌, List, refl, arith, ap, Some, None, get_or}
use Rattle.std.specs.Prelude.{Option, slice_get, AllPairs, ◌==◌}
use Rattle.std.proofs.lemmas.Bool.{eqb-true, eq-eqb}
use Rattle.std.proofs.lemmas.Option.{IfSome_then}
use Rattle.std.proofs.lemmas.List.Elements.{All-nil, All-contains, All-weaker}
use Rattle.resolver_clause_store.proofs.Filtering.{Splits-filter}
use Rattle.resolver_clause_store.specs.Laws.{IsIdentity, HasLawfulIds, HasLawfulPackages, IsLawfulPackage}
use Rattle.resolver_clause_store.specs.declared.ids.ConditionId.{ConditionId}
use Rattle.resolver_clause_store.specs.declared.data.LogicalOperator.{LogicalOperator}
use Rattle.resolver_clause_store.specs.declared.data.Condition.{Condition}
use Rattle.resolver_clause_store.specs.declared.data.Condition.TheVariants.{Binary}
use Rattle.resolve.specs.declared.ids.NameId.{NameId}
use Rattle.resolve.specs.declared.ids.SolvableId.{SolvableId}
use Rattle.resolve.specs.declared.ids.Version.{Version}
use Rattle.resolve.specs.Listings.{ListedPackage}
use Rattle.resolve.specs.declared.catalog.Catalog.{Catalog}
use Rattle.resolve.specs.Packages.{name_at, preference, IsVersionOf, IsPackageOf}
use Rattle.resolve.specs.Conditions.{condition_or_first}
use Rattle.resolve.specs.Catalogs.{catalog_universe, listing_of, takes, version_set_at, same_solvable_ids}
use Rattle.resolver_clause_store.specs.SortingLemmas.{IsPermutation-sorted_by}

parts_lower_at : (o : Option Condition) (op : LogicalOperator) (a b : ConditionId) → condition_or_first o ≡ Binary op a b → o ≡ Some (Binary op a b)
parts_lower_at None op a b e = absurd cc
parts_lower_at (Some c) op a b e = ap (λ (d : Condition). Some d) e

pub catalog_ids_lawful : (it : Catalog) → HasLawfulIds (catalog_universe it)
catalog_ids_lawful it = record {
  left_lower = λ i a b op e. (it.conditions.lawful i.0 op a b (parts_lower_at (slice_get it.conditions.conditions.items i.0) op a b e)).0;
  right_lower = λ i a b op e. (it.conditions.lawful i.0 op a b (parts_lower_at (slice_get it.conditions.conditions.items i.0) op a b e)).1;
}

name_of_version : (solvables : List Version) (n : NameId) (s : SolvableId) → IsVersionOf solvables n.0 s → name_at solvables s ≡ n
name_of_version solvables n s h = ap (λ (k : ℕ). let m : NameId = record { 0 = k } in m) h.named

once_of : (xs : List SolvableId) → AllPairs (λ a b. a.0 < b.0) xs → AllPairs ◌≢◌ xs
once_of xs up = λ i j d below within e. let apart : (get_or xs i d).0 < (get_or xs j d).0 = up i j d below within in
    let same : (get_or xs i d).0 ≡ (get_or xs j d).0 = ap (λ (s : SolvableId). s.0) e in omega arith

listing_lawful : (it : Catalog) (n : NameId) (o : Option ListedPackage) → ((p : ListedPackage) → o ≡ Some p → IsPackageOf it.packages.versions.keys n.0 p) →
    IsLawfulPackage (catalog_universe it) n (listing_of o)
listing_lawful it n None h = record {
  listed = λ s at. absurd (omega (arith, at.1));
  favored = tt;
  locked = tt;
  excluded = All-nil _;
  once = λ i j d below within. absurd (omega arith);
}
listing_lawful it n (Some p) h =
    let solvables : List Version = it.packages.versions.keys in
    let q : IsPackageOf it.packages.versions.keys n.0 p = h p refl in
    record {
      listed = λ s at. name_of_version it.packages.versions.keys n s (All-contains (IsVersionOf it.packages.versions.keys n.0) p.candidates s q.listed at);
      favored = IfSome_then p.favored q.favored (name_of_version it.packages.versions.keys n);
      locked = IfSome_then p.locked q.locked (name_of_version it.packages.versions.keys n);
      excluded = All-weaker (λ e. IsVersionOf it.packages.versions.keys n.0 e.0) (λ e. name_at it.packages.versions.keys e.0 ≡ n) (λ e.
          name_of_version it.packages.versions.keys n e.0) p.excluded q.excluded;
      once = once_of p.candidates q.rising;
    }

pub catalog_packages_lawful : (it : Catalog) → HasLawfulPackages (catalog_universe it)
catalog_packages_lawful it = record {
  packages = λ n. listing_lawful it n (slice_get it.packages.packages n.0) (λ p at. it.packages.lawful n.0 p at);
  filter_splits = λ xs v. Splits-filter (takes it.packages.versions.keys (version_set_at it.version_sets.keys v).range) xs;
  sort_permutes = λ xs. IsPermutation-sorted_by (preference it.packages.versions.keys) xs;
}

pub same_solvables : IsIdentity same_solvable_ids
same_solvables = record {
  alone = λ a b e. ap (λ (k : ℕ). let s : SolvableId = record { 0 = k } in s) (eqb-true a.0 b.0 e);
  itself = λ a. eq-eqb a.0 a.0 refl;
}

pub same_names : IsIdentity (λ (a b : NameId). a.0 == b.0)
same_names = record {
  alone = λ a b e. ap (λ (k : ℕ). let s : NameId = record { 0 = k } in s) (eqb-true a.0 b.0 e);
  itself = λ a. eq-eqb a.0 a.0 refl;
}

pub compares_solvables : (it : Catalog) → (catalog_universe it).same_solvable ≡ same_solvable_ids
compares_solvables it = refl
