-- The universe of a catalog.
use Rattle.std.specs.Prelude.{ℕ, Bool, not, ◌==◌, List, [], ◌∷◌, ◌++◌, Option, Some, None, slice_get, filter, map, codes, string_bytes, String}
use Rattle.std.specs.Prelude.{MatchBool, Vec}
use Rattle.std.specs.Global.{Global}
use Rattle.std.specs.Ordering.{nat_cmp}
use Rattle.resolver_clause_store.specs.Universe.{Universe, Package, Needs, known, unknown, hint_none}
use Rattle.resolver_clause_store.specs.declared.ids.VersionSetId.{VersionSetId}
use Rattle.resolver_clause_store.specs.declared.ids.StringId.{StringId}
use Rattle.resolver_clause_store.specs.declared.data.Condition.{Condition}
use Rattle.resolve.specs.declared.ids.NameId.{NameId}
use Rattle.resolve.specs.declared.ids.SolvableId.{SolvableId}
use Rattle.resolve.specs.declared.ids.Range.{Range}
use Rattle.resolve.specs.declared.ids.Range.TheVariants.{All}
use Rattle.resolve.specs.declared.ids.VersionSet.{VersionSet}
use Rattle.resolve.specs.declared.ids.Version.{Version}
use Rattle.resolve.specs.Solvables.{Solvable}
use Rattle.resolve.specs.Listings.{ListedPackage as Listing}
use Rattle.resolve.specs.declared.catalog.Catalog.{Catalog}
use Rattle.resolve.specs.declared.catalog.tables.PackageTable.{PackageTable}
use Rattle.resolve.specs.Ranges.{range_takes, range_text}
use Rattle.resolve.specs.Versions.{versions_text}
use Rattle.resolver_clause_store.specs.Sorting.{sorted_by}
use Rattle.resolve.specs.Packages.{BecomesExcluded, IsDeclarationRefused, IsDeclared, IsExclusionRefused, name_at, version_at, preference}
use Rattle.resolve.specs.Conditions.{condition_at}

-- a version set; if there is none, all versions of the first package
abbrev pub version_set_or_first : Option VersionSet → VersionSet
version_set_or_first None = record { name = record { 0 = 0 }; range = All }
version_set_or_first (Some v) = v

abbrev pub version_set_at : List VersionSet → VersionSetId → VersionSet
version_set_at version_sets v = version_set_or_first (slice_get version_sets v.0)

abbrev pub members_of : Option (Vec VersionSetId Global) → List VersionSetId
members_of None = []
members_of (Some members) = members.items

abbrev pub optional_text : Option (String Global) → List ℕ
optional_text None = []
optional_text (Some text) = string_bytes text

-- the record of a package; if there is none, it lists nothing
abbrev pub listing_of : Option Listing → Package SolvableId
listing_of None = record { listed = []; favored = None; locked = None; excluded = []; hint = hint_none }
listing_of (Some p) = record { listed = p.candidates; favored = p.favored; locked = p.locked; excluded = p.excluded; hint = hint_none }

-- the needs of a solvable; a reason hides its requirements and constraints from the solver
abbrev pub needs_with : Option StringId → Solvable → Needs
needs_with None s = known (record { requirements = s.requirements; constraints = s.constraints })
needs_with (Some reason) s = unknown reason

abbrev pub needs_of_solvable : Option Solvable → Needs
needs_of_solvable None = known (record { requirements = []; constraints = [] })
needs_of_solvable (Some s) = needs_with s.unknown s

-- whether the version set matches the solvable's version
abbrev pub takes : List Version → Range → SolvableId → Bool
takes versions range s = range_takes range (version_at versions s)

abbrev pub taken : List Version → Range → List SolvableId → List SolvableId
taken versions range xs = filter (takes versions range) xs

abbrev pub left_out : List Version → Range → List SolvableId → List SolvableId
left_out versions range xs = filter (λ s. not (takes versions range s)) xs

-- the versions, from the lowest on
abbrev pub rising_versions : List Version → List SolvableId → List ℕ
rising_versions versions xs = sorted_by nat_cmp (map (version_at versions) xs)

-- the name of the first solvable, and the versions of all of them
abbrev pub merged_text_of : List (String Global) → List Version → List SolvableId → List ℕ
merged_text_of names versions [] = []
merged_text_of names versions (s ∷ others) = optional_text (slice_get names (name_at versions s).0) ++ codes " " ++
    versions_text (rising_versions versions (s ∷ others))

abbrev pub same_solvable_ids : SolvableId → SolvableId → Bool
same_solvable_ids a b = a.0 == b.0

abbrev pub catalog_universe : Catalog → Universe NameId SolvableId
catalog_universe it = record {
  name = λ s. name_at it.packages.versions.keys s;
  version_set_name = λ v. (version_set_at it.version_sets.keys v).name;
  union_members = λ u. members_of (slice_get it.unions.keys u.0);
  condition = λ i. condition_at it.conditions.conditions.items i;
  condition_rank = λ i. i.0;
  same_solvable = same_solvable_ids;
  name_text = λ n. optional_text (slice_get it.names.keys n.0);
  version_set_text = λ v. range_text (version_set_at it.version_sets.keys v).range;
  string_text = λ r. optional_text (slice_get it.strings.keys r.0);
  merged_text = λ xs. merged_text_of it.names.keys it.packages.versions.keys xs;
  package_named = λ n. listing_of (slice_get it.packages.packages n.0);
  needs = λ s. needs_of_solvable (slice_get it.packages.solvables s.0);
  matching_of = λ xs v. taken it.packages.versions.keys (version_set_at it.version_sets.keys v).range xs;
  others_of = λ xs v. left_out it.packages.versions.keys (version_set_at it.version_sets.keys v).range xs;
  sorted_of = sorted_by (preference it.packages.versions.keys);
}

-- the version was declared, or nothing changed
abbrev pub DeclaresVersion : PackageTable → PackageTable → Version → Bool → Type 0
DeclaresVersion old new version is_new = MatchBool is_new
    (IsDeclared old.versions.keys new.versions.keys old.solvables new.solvables old.packages new.packages version)
    (IsDeclarationRefused old.versions.keys new.versions.keys old.solvables new.solvables old.packages new.packages version)

-- the solvable was excluded for the reason, or nothing changed
abbrev pub ExcludesSolvable : PackageTable → PackageTable → SolvableId → StringId → Bool → Type 0
ExcludesSolvable old new s reason is_new = MatchBool is_new
    (BecomesExcluded old.versions.keys old.solvables new.solvables old.packages new.packages s reason)
    (IsExclusionRefused old.versions.keys old.solvables new.solvables old.packages new.packages s)

-- the package of the solvable was changed in one way, or the change was refused in the other
abbrev pub ChangesPackage : (Done Refused : List Version → List Listing → List Listing → SolvableId → Type 0) → PackageTable → PackageTable → SolvableId → Bool → Type 0
ChangesPackage Done Refused old new s is_done =
    MatchBool is_done (Done old.versions.keys old.packages new.packages s) (Refused old.versions.keys old.packages new.packages s)

-- the tables of a catalog
abbrev pub names_in : Catalog → List (List ℕ)
names_in it = map string_bytes it.names.keys

abbrev pub packages_in : Catalog → List Listing
packages_in it = it.packages.packages

abbrev pub solvables_in : Catalog → List Solvable
solvables_in it = it.packages.solvables

abbrev pub versions_in : Catalog → List Version
versions_in it = it.packages.versions.keys

abbrev pub version_sets_in : Catalog → List VersionSet
version_sets_in it = it.version_sets.keys

abbrev pub unions_in : Catalog → List (List VersionSetId)
unions_in it = map (λ (members : Vec VersionSetId Global). members.items) it.unions.keys

abbrev pub conditions_in : Catalog → List Condition
conditions_in it = it.conditions.conditions.items

abbrev pub strings_in : Catalog → List (List ℕ)
strings_in it = map string_bytes it.strings.keys

-- all tables of a catalog
pub record Tables : Type 0 where
  pub names : List (List ℕ)
  pub packages : List Listing
  pub solvables : List Solvable
  pub versions : List Version
  pub version_sets : List VersionSet
  pub unions : List (List VersionSetId)
  pub conditions : List Condition
  pub strings : List (List ℕ)

abbrev pub tables_in : Catalog → Tables
tables_in it = record {
  names = names_in it;
  packages = packages_in it;
  solvables = solvables_in it;
  versions = versions_in it;
  version_sets = version_sets_in it;
  unions = unions_in it;
  conditions = conditions_in it;
  strings = strings_in it;
}

abbrev pub no_tables : Tables
no_tables = record { names = []; packages = []; solvables = []; versions = []; version_sets = []; unions = []; conditions = []; strings = [] }
