-- The laws of a provider.
use Rattle.std.specs.Prelude.{◌≡◌, ◌<◌, Bool, true, List, Contains, All, IfSome, IsPermutation, nat_eq, refl}
use Rattle.std.proofs.lemmas.Bool.{eqb-true, eq-eqb}
use Rattle.resolver_clause_store.specs.Lists.{HasNoRepeats, Splits}
use Rattle.resolver_clause_store.specs.Universe.{Universe, Package}
use Rattle.resolver_clause_store.specs.declared.ids.VersionSetId.{VersionSetId}
use Rattle.resolver_clause_store.specs.declared.ids.ConditionId.{ConditionId}
use Rattle.resolver_clause_store.specs.declared.data.LogicalOperator.{LogicalOperator}
use Rattle.resolver_clause_store.specs.declared.data.Condition.TheVariants.{Binary}

-- the test is equality of values
pub record IsIdentity {X : Type 0} (same : X → X → Bool) : Type 0 where
  pub alone : (a b : X) → same a b ≡ true → a ≡ b
  pub itself : (a : X) → same a a ≡ true

-- as the equality of numbers is
pub numbers_are_values : IsIdentity nat_eq
numbers_are_values = record { alone = eqb-true; itself = λ a. eq-eqb a a refl }

-- the laws of an interner's ids
pub record HasLawfulIds {N S : Type 0} (u : Universe N S) : Type 0 where
  -- both parts of a condition have a lower rank than the condition
  pub left_lower : (i a b : ConditionId) (op : LogicalOperator) → u.condition i ≡ Binary op a b → u.condition_rank a < u.condition_rank i
  pub right_lower : (i a b : ConditionId) (op : LogicalOperator) → u.condition i ≡ Binary op a b → u.condition_rank b < u.condition_rank i

-- a package lists, favors, locks and excludes only solvables of its name, and lists no candidate twice
pub record IsLawfulPackage {N S : Type 0} (u : Universe N S) (n : N) (p : Package S) : Type 0 where
  pub listed : (s : S) → Contains p.listed s → u.name s ≡ n
  pub favored : IfSome p.favored (λ s. u.name s ≡ n)
  pub locked : IfSome p.locked (λ s. u.name s ≡ n)
  pub excluded : All (λ e. u.name e.0 ≡ n) p.excluded
  pub once : HasNoRepeats p.listed

-- the laws of a provider's packages, filter and sort
pub record HasLawfulPackages {N S : Type 0} (u : Universe N S) : Type 0 where
  pub packages : (n : N) → IsLawfulPackage u n (u.package_named n)
  pub filter_splits : (xs : List S) (v : VersionSetId) → Splits xs (u.matching_of xs v) (u.others_of xs v)
  pub sort_permutes : (xs : List S) → IsPermutation xs (u.sorted_of xs)
