-- The provider that logs the calls to it, and its laws. Package n has the solvables 10 n + 1 to 10 n + 3, and version set 10 n + k has those up to 10
-- n + k.
use Rattle.std.specs.Prelude.{◌≡◌, ◌≢◌, ℕ, ◌+◌, ◌*◌, ◌/◌, ◌%◌, Bool, true, false, cond, not, nat_eq, nat_lt, nat_le, List, [], ◌∷◌, Some, None, All, AllPairs}
use Rattle.std.specs.Prelude.{filter, reverse, codes, refl, length, ◌<◌}
use Rattle.std.proofs.Common.{arith, ap}
use Rattle.std.proofs.lemmas.List.Elements.{All-nil, All-cons, All-contains}
use Rattle.std.proofs.lemmas.List.Kept.{AllPairs-cons}
use Rattle.std.proofs.lemmas.List.Sorted.{IsPermutation-reverse}
use Rattle.resolver_clause_store.specs.Filtering.{Splits-filter}
use Rattle.resolver_clause_store.specs.Universe.{Universe, Package, Needs, known, unknown, hint_none, hint_some}
use Rattle.resolver_clause_store.specs.Laws.{HasLawfulIds, IsLawfulPackage, HasLawfulPackages}
use Rattle.resolver_clause_store.specs.declared.VersionSetId.{VersionSetId}
use Rattle.resolver_clause_store.specs.declared.Condition.TheVariants.{Requirement}

-- whether a solvable of its package is in a version set
abbrev pub takes : VersionSetId → ℕ → Bool
takes v s = nat_le (s % 10) (v.0 % 10)

-- a known package, and an unknown one
abbrev pub known_package : ℕ → Package ℕ
known_package n = record {
  listed = (10 * n + 1) ∷ (10 * n + 2) ∷ (10 * n + 3) ∷ [];
  favored = Some (10 * n + 1);
  locked = None;
  excluded = [];
  hint = hint_some ((10 * n + 2) ∷ []);
}

abbrev pub unknown_package : Package ℕ
unknown_package = record { listed = []; favored = None; locked = None; excluded = []; hint = hint_none }

-- the dependencies of the third version of a package are unknown
abbrev pub needs : ℕ → Needs
needs s = cond (nat_eq (s % 10) 3) (unknown (record { 0 = 9 })) (known (record { requirements = []; constraints = [] }))

-- every union has these members
abbrev pub test_universe : List VersionSetId → Universe ℕ ℕ
test_universe members = record {
  name = λ s. s / 10;
  version_set_name = λ v. v.0 / 10;
  union_members = λ m. members;
  condition = λ c. Requirement (record { 0 = c.0 });
  condition_rank = λ c. 0;
  same_solvable = nat_eq;
  name_text = λ n. codes "package";
  version_set_text = λ v. codes "*";
  string_text = λ r. codes "reason";
  merged_text = λ xs. codes "versions";
  package_named = λ n. cond (nat_lt n 100) (known_package n) unknown_package;
  needs = needs;
  matching_of = λ xs v. filter (takes v) xs;
  others_of = λ xs v. filter (λ s. not (takes v s)) xs;
  sorted_of = reverse;
}

pub test_ids_lawful : (members : List VersionSetId) → HasLawfulIds (test_universe members)
test_ids_lawful members = record { left_lower = λ i a b op e. absurd cc; right_lower = λ i a b op e. absurd cc }

-- a list of one or two numbers that all have a property, and then of three
all_one : (P : ℕ → Type 0) (a : ℕ) → P a → All P (a ∷ [])
all_one P a one = All-cons P a [] one (All-nil P)

all_two : (P : ℕ → Type 0) (a b : ℕ) → P a → P b → All P (a ∷ b ∷ [])
all_two P a b one two = All-cons P a (b ∷ []) one (all_one P b two)

all_three : (P : ℕ → Type 0) (a b d : ℕ) → P a → P b → P d → All P (a ∷ b ∷ d ∷ [])
all_three P a b d one two three = All-cons P a (b ∷ d ∷ []) one (all_two P b d two three)

no_pairs : (xs : List ℕ) → xs ≡ [] → AllPairs ◌≢◌ xs
no_pairs xs none = λ i j d before below same. omega (arith, below, ap length none)

-- three numbers in increasing order
three_apart : (a b d : ℕ) → a < b → b < d → AllPairs ◌≢◌ (a ∷ b ∷ d ∷ [])
three_apart a b d first second =
    let apart : a ≢ b = omega arith in
    let further : a ≢ d = omega arith in
    let later : b ≢ d = omega arith in
    AllPairs-cons ◌≢◌ a (b ∷ d ∷ []) (all_two (λ y. a ≢ y) b d apart further)
    (AllPairs-cons ◌≢◌ b (d ∷ []) (all_one (λ y. b ≢ y) d later) (AllPairs-cons ◌≢◌ d [] (All-nil (λ y. d ≢ y)) (no_pairs [] refl)))

known_is_lawful : (members : List VersionSetId) (n : ℕ) → IsLawfulPackage (test_universe members) n (known_package n)
known_is_lawful members n = record {
  listed = λ s h. All-contains (λ t. t / 10 ≡ n) (known_package n).listed s
      (all_three (λ t. t / 10 ≡ n) (10 * n + 1) (10 * n + 2) (10 * n + 3) (omega arith) (omega arith) (omega arith)) h;
  favored = omega arith;
  locked = tt;
  excluded = All-nil _;
  once = three_apart _ _ _ (omega arith) (omega arith);
}

unknown_is_lawful : (members : List VersionSetId) (n : ℕ) → IsLawfulPackage (test_universe members) n unknown_package
unknown_is_lawful members n = record {
  listed = λ s h. All-contains (λ t. t / 10 ≡ n) [] s (All-nil _) h;
  favored = tt;
  locked = tt;
  excluded = All-nil _;
  once = no_pairs [] refl;
}

package_is_lawful : (members : List VersionSetId) (n : ℕ) (b : Bool) → IsLawfulPackage (test_universe members) n (cond b (known_package n) unknown_package)
package_is_lawful members n true = known_is_lawful members n
package_is_lawful members n false = unknown_is_lawful members n

pub test_packages_lawful : (members : List VersionSetId) → HasLawfulPackages (test_universe members)
test_packages_lawful members = record {
  packages = λ n. package_is_lawful members n (nat_lt n 100);
  filter_splits = λ xs v. Splits-filter (takes v) xs;
  sort_permutes = λ xs. IsPermutation-reverse xs;
}
