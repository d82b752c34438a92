-- A provider of packages in a row, and its laws. Package n lists n, after the newer candidate 2^32 + n if there are two. Version set n has both. Each
-- solvable below `reach` requires the next version set. Solvable 2^32 - 1 has the name 0, and no package lists it.
use Rattle.std.specs.Prelude.{◌≡◌, ◌≢◌, ℕ, ◌+◌, ◌%◌, Bool, true, false, cond, not, nat_eq, nat_lt, List, [], ◌∷◌, None, All, AllPairs, filter, refl}
use Rattle.std.specs.Prelude.{length, ◌<◌, ◌≤◌}
use Rattle.std.proofs.Common.{arith}
use Rattle.std.proofs.lemmas.List.Elements.{All-nil, All-cons, All-contains}
use Rattle.std.proofs.lemmas.List.Kept.{AllPairs-cons}
use Rattle.std.proofs.lemmas.List.Sorted.{IsPermutation-refl}
use Rattle.resolver_clause_store.specs.Filtering.{Splits-filter}
use Rattle.resolver_clause_store.specs.Universe.{Universe, Package, known, hint_none}
use Rattle.resolver_clause_store.specs.Laws.{HasLawfulIds, IsLawfulPackage, HasLawfulPackages}
use Rattle.resolver_clause_store.specs.declared.ConditionalRequirement.{ConditionalRequirement}
use Rattle.resolver_clause_store.specs.declared.Requirement.TheVariants.{Single}
use Rattle.resolver_clause_store.specs.declared.VersionSetId.{VersionSetId}
use Rattle.resolver_clause_store.specs.declared.Condition.TheVariants.{Requirement}

-- the requirements of a solvable
abbrev pub required_below : ℕ → ℕ → List ConditionalRequirement
required_below reach s = cond (nat_lt s reach) (record { condition = None; requirement = Single (record { 0 = s + 1 }) } ∷ []) []

-- the name of a solvable
abbrev pub name_in_chain : ℕ → ℕ
name_in_chain s = cond (nat_lt (s % 4294967296) 4294967295) (s % 4294967296) 0

-- the candidates of a package, and the package itself
abbrev pub candidates_in : Bool → ℕ → List ℕ
candidates_in paired n = cond paired ((4294967296 + n) ∷ n ∷ []) (n ∷ [])

abbrev pub listed_in : Bool → ℕ → Package ℕ
listed_in paired n = record { listed = candidates_in paired n; favored = None; locked = None; excluded = []; hint = hint_none }

abbrev pub none_listed : Package ℕ
none_listed = record { listed = []; favored = None; locked = None; excluded = []; hint = hint_none }

abbrev pub takes_own : VersionSetId → ℕ → Bool
takes_own v s = nat_eq (s % 4294967296) v.0

abbrev pub chain_universe : ℕ → Bool → Universe ℕ ℕ
chain_universe reach paired = record {
  name = name_in_chain;
  version_set_name = λ v. v.0;
  union_members = λ m. [];
  condition = λ c. Requirement (record { 0 = c.0 });
  condition_rank = λ c. c.0;
  same_solvable = nat_eq;
  name_text = λ n. [];
  version_set_text = λ v. [];
  string_text = λ r. [];
  merged_text = λ xs. [];
  package_named = λ n. cond (nat_lt n 4294967295) (listed_in paired n) none_listed;
  needs = λ s. known (record { requirements = required_below reach s; constraints = [] });
  matching_of = λ xs v. filter (takes_own v) xs;
  others_of = λ xs v. filter (λ s. not (takes_own v s)) xs;
  sorted_of = λ xs. xs;
}

-- a name that the test of its solvable decides
name_below : (m n : ℕ) (below : Bool) → nat_lt m 4294967295 ≡ below → m ≡ n → n < 4294967295 → cond below m 0 ≡ n
name_below m n true is same small = same
name_below m n false is same small =
    let large : 4294967295 ≤ m = grind arith in
    omega (arith, same, small, large)

own_name : (n : ℕ) → n < 4294967295 → name_in_chain n ≡ n
own_name n small = name_below (n % 4294967296) n (nat_lt (n % 4294967296) 4294967295) refl (omega (arith, small)) small

newer_name : (n : ℕ) → n < 4294967295 → name_in_chain (4294967296 + n) ≡ n
newer_name n small =
    let same : (4294967296 + n) % 4294967296 ≡ n = omega (arith, small) in
    name_below ((4294967296 + n) % 4294967296) n (nat_lt ((4294967296 + n) % 4294967296) 4294967295) refl same small

no_pairs : (xs : List ℕ) → length xs ≤ 1 → AllPairs ◌≢◌ xs
no_pairs xs short = λ i j d before below same. omega arith

all_named : (n : ℕ) → n < 4294967295 → (paired : Bool) → All (λ s. name_in_chain s ≡ n) (candidates_in paired n)
all_named n small true =
    let Named : ℕ → Type 0 = λ s. name_in_chain s ≡ n in
    All-cons Named (4294967296 + n) (n ∷ []) (newer_name n small) (All-cons Named n [] (own_name n small) (All-nil Named))
all_named n small false =
    let Named : ℕ → Type 0 = λ s. name_in_chain s ≡ n in
    All-cons Named n [] (own_name n small) (All-nil Named)

all_apart : (n : ℕ) (paired : Bool) → AllPairs ◌≢◌ (candidates_in paired n)
all_apart n true =
    let Apart : ℕ → Type 0 = λ s. 4294967296 + n ≢ s in
    let apart : Apart n = omega arith in
    AllPairs-cons ◌≢◌ (4294967296 + n) (n ∷ []) (All-cons Apart n [] apart (All-nil Apart)) (no_pairs (n ∷ []) (omega arith))
all_apart n false = no_pairs (n ∷ []) (omega arith)

module _ (reach : ℕ) (paired : Bool) where
  pub chain_ids_lawful : HasLawfulIds (chain_universe reach paired)
  chain_ids_lawful = record {
    left_lower = λ i a b op e. absurd cc;
    right_lower = λ i a b op e. absurd cc;
  }

  package_is_lawful : (n : ℕ) (below : Bool) → nat_lt n 4294967295 ≡ below →
      IsLawfulPackage (chain_universe reach paired) n (cond below (listed_in paired n) none_listed)
  package_is_lawful n true is =
      let small : n < 4294967295 = grind arith in
      record {
        listed = λ s h. All-contains (λ t. name_in_chain t ≡ n) (candidates_in paired n) s (all_named n small paired) h;
        favored = tt;
        locked = tt;
        excluded = All-nil _;
        once = all_apart n paired;
      }
  package_is_lawful n false is = record {
    listed = λ s h. All-contains (λ t. name_in_chain t ≡ n) [] s (All-nil _) h;
    favored = tt;
    locked = tt;
    excluded = All-nil _;
    once = no_pairs [] (omega arith);
  }

  pub chain_packages_lawful : HasLawfulPackages (chain_universe reach paired)
  chain_packages_lawful = record {
    packages = λ n. package_is_lawful n (nat_lt n 4294967295) refl;
    filter_splits = λ xs v. Splits-filter (takes_own v) xs;
    sort_permutes = λ xs. IsPermutation-refl xs;
  }
