-- Tests of what an edge says of its ends.
use Rattle.std.specs.Prelude.{Bool, true, false, List, Option, Some, None}
use Rattle.std.specs.List.{list_any}
use Rattle.resolver_clause_store.specs.declared.VersionSetId.{VersionSetId}
use Rattle.resolver_report.specs.declared.graph.ConflictCause.TheVariants.{Constrains, ForbidMultipleInstances, Excluded}
use Rattle.resolver_report.specs.declared.graph.ConflictEdge.{ConflictEdge}
use Rattle.resolver_report.specs.declared.graph.ConflictEdge.TheVariants.{Requires, Conflict}
use Rattle.resolver_report.specs.declared.graph.Edge.{Edge}

abbrev pub is_conflict : {S : Type 0} → ConflictEdge S → Bool
is_conflict (Requires r) = false
is_conflict (Conflict c) = true

abbrev pub is_exclusion : {S : Type 0} → ConflictEdge S → Bool
is_exclusion (Conflict Excluded) = true
is_exclusion w = false

abbrev pub is_second_instance : {S : Type 0} → ConflictEdge S → Bool
is_second_instance (Conflict ForbidMultipleInstances) = true
is_second_instance w = false

-- the version set of a constraint edge
abbrev pub constraint : {S : Type 0} → ConflictEdge S → Option VersionSetId
constraint (Conflict (Constrains v)) = Some v
constraint w = None

-- some edge is a conflict, or an exclusion
abbrev pub has_conflict : {S : Type 0} → List (Edge S) → Bool
has_conflict es = list_any (λ e. is_conflict e.weight) es

abbrev pub has_exclusion : {S : Type 0} → List (Edge S) → Bool
has_exclusion es = list_any (λ e. is_exclusion e.weight) es

abbrev pub has_second_instance : {S : Type 0} → List (Edge S) → Bool
has_second_instance es = list_any (λ e. is_second_instance e.weight) es
