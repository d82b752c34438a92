-- A universe without packages, and its laws.
use Rattle.std.specs.Prelude.{◌≡◌, ◌≢◌, ℕ, ◌≤◌, List, [], ◌∷◌, nat_eq, None, AllPairs, length}
use Rattle.std.proofs.Common.{arith}
use Rattle.std.proofs.lemmas.List.Elements.{All-nil, All-contains}
use Rattle.std.proofs.lemmas.List.Sorted.{IsPermutation-refl}
use Rattle.resolver_clause_store.specs.Laws.{HasLawfulIds, HasLawfulPackages}
use Rattle.resolver_clause_store.specs.Lists.{IsInterleaving, interleave_none, interleave_left}
use Rattle.resolver_clause_store.specs.Universe.{Universe, hint_none, unknown}
use Rattle.resolver_clause_store.specs.declared.Condition.TheVariants.{Requirement}

-- a universe that is never looked at
abbrev pub empty_universe : Universe ℕ ℕ
empty_universe = record {
  name = λ s. s;
  version_set_name = λ v. v.0;
  union_members = λ m. [];
  condition = λ c. Requirement (record { 0 = 0 });
  condition_rank = λ c. 0;
  same_solvable = nat_eq;
  name_text = λ n. [];
  version_set_text = λ v. [];
  string_text = λ r. [];
  merged_text = λ xs. [];
  package_named = λ n. record { listed = []; favored = None; locked = None; excluded = []; hint = hint_none };
  needs = λ s. unknown (record { 0 = 0 });
  matching_of = λ xs v. xs;
  others_of = λ xs v. [];
  sorted_of = λ xs. xs;
}

pub empty_ids_lawful : HasLawfulIds empty_universe
empty_ids_lawful = record { left_lower = λ i a b op e. absurd cc; right_lower = λ i a b op e. absurd cc }

no_pairs : (xs : List ℕ) → length xs ≤ 1 → AllPairs ◌≢◌ xs
no_pairs xs short = λ i j d before below same. omega arith

all_left : (xs : List ℕ) → IsInterleaving xs xs []
all_left [] = interleave_none
all_left (x ∷ xs) = interleave_left (all_left xs)

pub empty_packages_lawful : HasLawfulPackages empty_universe
empty_packages_lawful = record {
  packages = λ n. record {
    listed = λ s h. All-contains (λ t. t ≡ n) [] s (All-nil _) h;
    favored = tt;
    locked = tt;
    excluded = All-nil _;
    once = no_pairs [] (omega arith);
  };
  filter_splits = λ xs v. record { cut = all_left xs; apart = λ x inside none. absurd (omega (arith, none.1)) };
  sort_permutes = λ xs. IsPermutation-refl xs;
}
