-- What the worked provider says, as one record, and its laws.
use Rattle.std.specs.Prelude.{◌≡◌, ◌≢◌, ℕ, ◌+◌, ◌<◌, ◌&&◌, Bool, true, not, nat_eq, nat_le, List, [], ◌∷◌, ◌++◌, Option, Some, None}
use Rattle.std.specs.Prelude.{AllPairs, codes, length, filter, map, slice_get}
use Rattle.std.specs.List.{flat_map, range_with_len}
use Rattle.std.specs.Option.{option_map_or}
use Rattle.std.specs.Fmt.{decimal}
use Rattle.std.proofs.Common.{arith, ◌∙◌, sym}
use Rattle.std.proofs.lemmas.Bool.{eqb-true}
use Rattle.std.proofs.lemmas.List.Elements.{All-nil, All-contains, filter_passes}
use Rattle.std.proofs.lemmas.List.FromFn.{get_or-range_with_len, length-range_with_len}
use Rattle.std.proofs.lemmas.List.Kept.{AllPairs-filter}
use Rattle.std.proofs.lemmas.List.Sorted.{IsPermutation-refl}
use Rattle.resolver_clause_store.specs.Filtering.{Splits-filter}
use Rattle.resolver_clause_store.specs.Universe.{Universe, known, hint_none}
use Rattle.resolver_clause_store.specs.Laws.{HasLawfulIds, HasLawfulPackages}
use Rattle.resolver_clause_store.specs.declared.Condition.TheVariants.{Requirement}
use Rattle.resolver_clause_store.specs.declared.ConditionalRequirement.{ConditionalRequirement}
use Rattle.resolver_clause_store.specs.declared.Requirement.TheVariants.{Single}
use Rattle.resolver_clause_store.specs.declared.VersionSetId.{VersionSetId}
use Rattle.resolve.specs.declared.worked_provider.TheConstants.{DEPENDENCIES, NAMES, RELEASES, VERSION_SETS}
use Rattle.resolve.specs.declared.worked_provider.Range.{Range}
use Rattle.resolve.specs.declared.worked_provider.Range.TheVariants.{Caret, Exact}
use Rattle.resolve.specs.declared.worked_provider.Version.{Version}

-- the texts of a version and of a range
abbrev pub version_text : Version → List ℕ
version_text v = decimal v.0 ++ codes "." ++ decimal v.1 ++ codes "." ++ decimal v.2

abbrev pub range_text : Range → List ℕ
range_text (Caret major minor) = codes "^" ++ decimal major ++ codes "." ++ decimal minor
range_text (Exact only) = codes "=" ++ version_text only

-- whether a version is in a range
abbrev pub same_version : Version → Version → Bool
same_version v w = nat_eq v.0 w.0 && (nat_eq v.1 w.1 && nat_eq v.2 w.2)

abbrev pub range_takes : Range → Version → Bool
range_takes (Caret major minor) v = nat_eq v.0 major && nat_le minor v.1
range_takes (Exact only) v = same_version v only

-- what the tables have at a place, or what stands for an id that is none
abbrev pub release_or_none : Option (ℕ × Version) → ℕ × Version
release_or_none None = (0, record { 0 = 0; 1 = 0; 2 = 0 })
release_or_none (Some r) = r

abbrev pub version_set_or_none : Option (ℕ × Range) → ℕ × Range
version_set_or_none None = (0, Exact (record { 0 = 0; 1 = 0; 2 = 0 }))
version_set_or_none (Some v) = v

abbrev pub name_at : ℕ → List ℕ
name_at n = option_map_or (λ text. text.now) (slice_get NAMES n) []

abbrev pub release_at : ℕ → ℕ × Version
release_at s = release_or_none (slice_get RELEASES s)

abbrev pub version_set_at : VersionSetId → ℕ × Range
version_set_at v = version_set_or_none (slice_get VERSION_SETS v.0)

-- the releases of a package
abbrev pub is_of : ℕ → ℕ → Bool
is_of n s = nat_eq (release_at s).0 n

abbrev pub listed_in : ℕ → List ℕ
listed_in n = filter (is_of n) (range_with_len 0 (length RELEASES))

-- the requirements of a release
abbrev pub demand_of : ℕ × ℕ → ConditionalRequirement
demand_of d = record { condition = None; requirement = Single (record { 0 = d.1 }) }

abbrev pub required_by : ℕ → List ConditionalRequirement
required_by s = map demand_of (filter (λ d. nat_eq d.0 s) DEPENDENCIES)

-- whether a release is in a version set
abbrev pub takes : VersionSetId → ℕ → Bool
takes v s = range_takes (version_set_at v).1 (release_at s).1

-- the name of the first release, and the versions of all of them
abbrev pub next_text : ℕ → List ℕ
next_text s = codes " " ++ version_text (release_at s).1

abbrev pub versions_text : List ℕ → List ℕ
versions_text xs = flat_map next_text xs

abbrev pub merged_text : List ℕ → List ℕ
merged_text [] = []
merged_text (s ∷ others) = name_at (release_at s).0 ++ versions_text (s ∷ others)

abbrev pub worked_universe : Universe ℕ ℕ
worked_universe = record {
  name = λ s. (release_at s).0;
  version_set_name = λ v. (version_set_at v).0;
  union_members = λ m. [];
  condition = λ c. Requirement (record { 0 = c.0 });
  condition_rank = λ c. 0;
  same_solvable = nat_eq;
  name_text = name_at;
  version_set_text = λ v. range_text (version_set_at v).1;
  string_text = λ r. [];
  merged_text = merged_text;
  package_named = λ n. record { listed = listed_in n; favored = None; locked = None; excluded = []; hint = hint_none };
  needs = λ s. known (record { requirements = required_by s; constraints = [] });
  matching_of = λ xs v. filter (takes v) xs;
  others_of = λ xs v. filter (λ s. not (takes v s)) xs;
  sorted_of = λ xs. xs;
}

-- the laws
pub worked_ids_lawful : HasLawfulIds worked_universe
worked_ids_lawful = record { left_lower = λ i a b op e. absurd cc; right_lower = λ i a b op e. absurd cc }

-- numbers in a row are all different
no_repeats : (n : ℕ) → AllPairs ◌≢◌ (range_with_len 0 n)
no_repeats n = λ i j d below within same.
    let size : length (range_with_len 0 n) ≡ n = length-range_with_len 0 n in
    let last : j < n = omega (arith, within, size) in
    let first : i < n = omega (arith, below, last) in
    let equal : 0 + i ≡ 0 + j = sym (get_or-range_with_len 0 n i d first) ∙ same ∙ get_or-range_with_len 0 n j d last in
    omega (arith, below, equal)

pub worked_packages_lawful : HasLawfulPackages worked_universe
worked_packages_lawful = record {
  packages = λ n. record {
    listed = λ s h. eqb-true _ n (All-contains (λ t. is_of n t ≡ true) (listed_in n) s (filter_passes (is_of n) (range_with_len 0 (length RELEASES))) h);
    favored = tt;
    locked = tt;
    excluded = All-nil _;
    once = AllPairs-filter ◌≢◌ (is_of n) (range_with_len 0 (length RELEASES)) (no_repeats (length RELEASES));
  };
  filter_splits = λ xs v. Splits-filter (takes v) xs;
  sort_permutes = λ xs. IsPermutation-refl xs;
}
