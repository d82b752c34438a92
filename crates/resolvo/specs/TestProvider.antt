-- The provider of the tests, and its laws. Package n has the solvables 10 n + 1 and 10 n + 4. Version set 10 n + k has 10 n + k, and with k = 0 both.
use Rattle.std.specs.Prelude.{◌≡◌, ◌≢◌, ℕ, ◌+◌, ◌*◌, ◌/◌, ◌%◌, Bool, true, false, cond, not, nat_eq, nat_lt, List, [], ◌∷◌, Some, None, All, AllPairs}
use Rattle.std.specs.Prelude.{IfSome, filter, map, reverse, refl, length, ◌<◌, ◌≤◌}
use Rattle.std.proofs.Common.{arith}
use Rattle.std.proofs.lemmas.List.Elements.{All-nil, All-cons, All-contains}
use Rattle.std.proofs.lemmas.List.Kept.{AllPairs-cons}
use Rattle.std.proofs.lemmas.List.Sorted.{IsPermutation-reverse}
use Rattle.resolver_clause_store.specs.Filtering.{Splits-filter}
use Rattle.resolver_clause_store.specs.Universe.{Universe, Hint, Package, known, unknown, hint_all, hint_none}
use Rattle.resolver_clause_store.specs.Laws.{HasLawfulIds, IsLawfulPackage, HasLawfulPackages}
use Rattle.resolver_clause_store.specs.declared.ConditionId.{ConditionId}
use Rattle.resolver_clause_store.specs.declared.ConditionalRequirement.{ConditionalRequirement}
use Rattle.resolver_clause_store.specs.declared.StringId.{StringId}
use Rattle.resolver_clause_store.specs.declared.VersionSetId.{VersionSetId}
use Rattle.resolver_clause_store.specs.declared.Condition.{Condition}
use Rattle.resolver_clause_store.specs.declared.Condition.TheVariants.{Requirement, Binary}
use Rattle.resolver_clause_store.specs.declared.LogicalOperator.{LogicalOperator}
use Rattle.resolver_clause_store.specs.declared.LogicalOperator.TheVariants.{And, Or}

-- whether a solvable of its package is in a version set
abbrev pub takes : VersionSetId → ℕ → Bool
takes v s = cond (nat_eq (v.0 % 10) 0) true (nat_eq (s % 10) (v.0 % 10))

-- the statements about a solvable
abbrev pub stated_by : {X : Type 0} → List (ℕ × X) → ℕ → List X
stated_by statements s = map (λ e. e.1) (filter (λ e. nat_eq e.0 s) statements)

-- the hint of a package about the dependencies of its solvables
abbrev pub hint_by : ℕ → Hint ℕ
hint_by n = cond (nat_eq (n / 10) 1) hint_all hint_none

-- a known package, and an unknown one
abbrev pub known_package : ℕ → Package ℕ
known_package n = record {
  listed = (10 * n + 1) ∷ (10 * n + 4) ∷ [];
  favored = None;
  locked = cond (nat_eq n 7) (Some (10 * n + 1)) None;
  excluded = cond (nat_eq n 8) ((10 * n + 4, record { 0 = 5 }) ∷ []) [];
  hint = hint_by n;
}

abbrev pub unknown_package : Package ℕ
unknown_package = record { listed = []; favored = None; locked = None; excluded = []; hint = hint_none }

-- a condition from 1000 on joins two lower ones: by "and" if the first ends in 4, otherwise by "or"
abbrev pub joined_by : ℕ → LogicalOperator
joined_by n = cond (nat_eq (n / 1000 % 10) 4) And Or

abbrev pub condition_of : ConditionId → Condition
condition_of c = cond (nat_lt c.0 1000) (Requirement (record { 0 = c.0 })) (Binary (joined_by c.0) (record { 0 = c.0 / 1000 }) (record { 0 = c.0 % 1000 }))

abbrev pub test_universe : List (ℕ × ConditionalRequirement) → List (ℕ × VersionSetId) → Universe ℕ ℕ
test_universe requirements constraints = record {
  name = λ s. s / 10;
  version_set_name = λ v. v.0 / 10;
  union_members = λ m. [];
  condition = condition_of;
  condition_rank = λ c. c.0;
  same_solvable = nat_eq;
  name_text = λ n. [];
  version_set_text = λ v. [];
  string_text = λ r. [];
  merged_text = λ xs. [];
  package_named = λ n. cond (nat_lt n 100) (known_package n) unknown_package;
  needs = λ s. cond (nat_eq s 94) (unknown (record { 0 = 6 }))
      (known (record { requirements = stated_by requirements s; constraints = stated_by constraints s }));
  matching_of = λ xs v. filter (takes v) xs;
  others_of = λ xs v. filter (λ s. not (takes v s)) xs;
  sorted_of = reverse;
}

-- the parts of a condition that is decided by this test
left_part : (n : ℕ) (below : Bool) → nat_lt n 1000 ≡ below → (a b : ConditionId) (op : LogicalOperator) →
    cond below (Requirement (record { 0 = n })) (Binary (joined_by n) (record { 0 = n / 1000 }) (record { 0 = n % 1000 })) ≡ Binary op a b → a.0 < n
left_part n true is a b op e = absurd cc
left_part n false is a b op e =
    let same : n / 1000 ≡ a.0 = cc in
    let large : 1000 ≤ n = grind arith in
    omega arith

right_part : (n : ℕ) (below : Bool) → nat_lt n 1000 ≡ below → (a b : ConditionId) (op : LogicalOperator) →
    cond below (Requirement (record { 0 = n })) (Binary (joined_by n) (record { 0 = n / 1000 }) (record { 0 = n % 1000 })) ≡ Binary op a b → b.0 < n
right_part n true is a b op e = absurd cc
right_part n false is a b op e =
    let same : n % 1000 ≡ b.0 = cc in
    let large : 1000 ≤ n = grind arith in
    omega arith

module _ (requirements : List (ℕ × ConditionalRequirement)) (constraints : List (ℕ × VersionSetId)) where
  pub test_ids_lawful : HasLawfulIds (test_universe requirements constraints)
  test_ids_lawful = record {
    left_lower = λ i a b op e. left_part i.0 (nat_lt i.0 1000) refl a b op e;
    right_lower = λ i a b op e. right_part i.0 (nat_lt i.0 1000) refl a b op e;
  }

  locked_is_lawful : (n : ℕ) (locks : Bool) → IfSome (cond locks (Some (10 * n + 1)) None) (λ s. s / 10 ≡ n)
  locked_is_lawful n true = omega arith
  locked_is_lawful n false = tt

  excluded_is_lawful : (n : ℕ) (excludes : Bool) → All (λ (e : ℕ × StringId). e.0 / 10 ≡ n) (cond excludes ((10 * n + 4, record { 0 = 5 }) ∷ []) [])
  excluded_is_lawful n true = All-cons (λ (e : ℕ × StringId). e.0 / 10 ≡ n) _ [] (omega arith) (All-nil _)
  excluded_is_lawful n false = All-nil _

  no_pairs : (xs : List ℕ) → length xs ≤ 1 → AllPairs ◌≢◌ xs
  no_pairs xs short = λ i j d before below same. omega arith

  known_is_lawful : (n : ℕ) → IsLawfulPackage (test_universe requirements constraints) n (known_package n)
  known_is_lawful n =
      let OfThis : ℕ → Type 0 = λ s. s / 10 ≡ n in
      let Apart : ℕ → Type 0 = λ s. 10 * n + 1 ≢ s in
      let first : OfThis (10 * n + 1) = omega arith in
      let last : OfThis (10 * n + 4) = omega arith in
      let apart : Apart (10 * n + 4) = omega arith in
      record {
        listed = λ s h. All-contains OfThis (known_package n).listed s
            (All-cons OfThis (10 * n + 1) ((10 * n + 4) ∷ []) first (All-cons OfThis (10 * n + 4) [] last (All-nil OfThis))) h;
        favored = tt;
        locked = locked_is_lawful n (nat_eq n 7);
        excluded = excluded_is_lawful n (nat_eq n 8);
        once = AllPairs-cons ◌≢◌ (10 * n + 1) ((10 * n + 4) ∷ []) (All-cons Apart (10 * n + 4) [] apart (All-nil Apart))
            (no_pairs ((10 * n + 4) ∷ []) (omega arith));
      }

  package_is_lawful : (n : ℕ) (b : Bool) → IsLawfulPackage (test_universe requirements constraints) n (cond b (known_package n) unknown_package)
  package_is_lawful n true = known_is_lawful n
  package_is_lawful n false = record {
    listed = λ s h. All-contains (λ t. t / 10 ≡ n) [] s (All-nil _) h;
    favored = tt;
    locked = tt;
    excluded = All-nil _;
    once = no_pairs [] (omega arith);
  }

  pub test_packages_lawful : HasLawfulPackages (test_universe requirements constraints)
  test_packages_lawful = record {
    packages = λ n. package_is_lawful n (nat_lt n 100);
    filter_splits = λ xs v. Splits-filter (takes v) xs;
    sort_permutes = λ xs. IsPermutation-reverse xs;
  }
