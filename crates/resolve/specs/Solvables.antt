-- What was declared of each version.
use Rattle.std.specs.Prelude.{◌≤◌, ◌++◌, ◌∷◌, [], ℕ, Bool, false, List, Option, None, Some}
use Rattle.resolver_clause_store.specs.declared.ids.VersionSetId.{VersionSetId}
use Rattle.resolver_clause_store.specs.declared.ids.StringId.{StringId}
use Rattle.resolver_clause_store.specs.declared.data.ConditionalRequirement.{ConditionalRequirement}
use Rattle.resolve.specs.Links.{up_to}
use Rattle.resolve.specs.declared.catalog.solvables.Row.{Row}
use Rattle.resolve.specs.declared.catalog.solvables.State.{State}
use Rattle.resolve.specs.declared.catalog.solvables.State.TheVariants.{Known, Unknown}

-- the requirements and constraints of a version, the reason for which they are unknown, if there is one, and whether it is excluded
pub record Solvable : Type 0 where
  pub requirements : List ConditionalRequirement
  pub constraints : List VersionSetId
  pub unknown : Option StringId
  pub is_excluded : Bool

-- a version of which nothing was declared
abbrev pub no_needs : Solvable
no_needs = record { requirements = []; constraints = []; unknown = None; is_excluded = false }

abbrev pub with_requirement : Solvable → ConditionalRequirement → Solvable
with_requirement s requirement = record s { requirements = s.requirements ++ requirement ∷ [] }

abbrev pub with_constraint : Solvable → VersionSetId → Solvable
with_constraint s constraint = record s { constraints = s.constraints ++ constraint ∷ [] }

-- the reason for which the requirements and constraints are unknown, if there is one
abbrev pub unknown_reason : State → Option StringId
unknown_reason (Known is_excluded) = None
unknown_reason (Unknown is_excluded reason) = Some reason

-- whether the version is excluded
abbrev pub excluded_in : State → Bool
excluded_in (Known is_excluded) = is_excluded
excluded_in (Unknown is_excluded reason) = is_excluded

-- what a row says, where its lists are in these tables
abbrev pub solvable_of_row : List (List ConditionalRequirement) → List (List VersionSetId) → Row → Solvable
solvable_of_row requirements constraints row = record {
  requirements = up_to requirements row.requirements;
  constraints = up_to constraints row.constraints;
  unknown = unknown_reason row.state;
  is_excluded = excluded_in row.state;
}

-- the lists of a row are in tables of this length
pub record IsRowWithin (requirements constraints : ℕ) (row : Row) : Type 0 where
  pub required : row.requirements ≤ requirements
  pub constrained : row.constraints ≤ constraints
