-- The universe of what was declared.
use Rattle.std.specs.Prelude.{ℕ, List, [], ◌∷◌, ◌++◌, codes, slice_get, slice_index_or}
use Rattle.resolver_clause_store.specs.Universe.{Demands, Universe}
use Rattle.resolve.specs.declared.ids.NameId.{NameId}
use Rattle.resolve.specs.declared.ids.SolvableId.{SolvableId}
use Rattle.resolve.specs.Catalogs.{Tables, left_out, listing_of, needs_of_solvable, rising_versions, same_solvable_ids, taken, version_set_at}
use Rattle.resolve.specs.Conditions.{condition_at}
use Rattle.resolve.specs.Meaning.{Input}
use Rattle.resolve.specs.Packages.{name_at, preference}
use Rattle.resolve.specs.Ranges.{range_text}
use Rattle.resolver_clause_store.specs.Sorting.{sorted_by}
use Rattle.resolve.specs.Versions.{versions_text}

-- the name of the first solvable, and the versions of all of them
abbrev pub merged_in : Tables → List SolvableId → List ℕ
merged_in t [] = []
merged_in t (s ∷ others) = slice_index_or t.names (name_at t.versions s).0 [] ++ codes " " ++ versions_text (rising_versions t.versions (s ∷ others))

abbrev pub universe_in : Tables → Universe NameId SolvableId
universe_in t = record {
  name = λ s. name_at t.versions s;
  version_set_name = λ v. (version_set_at t.version_sets v).name;
  union_members = λ u. slice_index_or t.unions u.0 [];
  condition = λ i. condition_at t.conditions i;
  condition_rank = λ i. i.0;
  same_solvable = same_solvable_ids;
  name_text = λ n. slice_index_or t.names n.0 [];
  version_set_text = λ v. range_text (version_set_at t.version_sets v).range;
  string_text = λ r. slice_index_or t.strings r.0 [];
  merged_text = λ xs. merged_in t xs;
  package_named = λ n. listing_of (slice_get t.packages n.0);
  needs = λ s. needs_of_solvable (slice_get t.solvables s.0);
  matching_of = λ xs v. taken t.versions (version_set_at t.version_sets v).range xs;
  others_of = λ xs v. left_out t.versions (version_set_at t.version_sets v).range xs;
  sorted_of = sorted_by (preference t.versions);
}

abbrev pub input_demands : Input → Demands
input_demands input = record { requirements = input.requirements; constraints = input.constraints }
