-- Runs: neighbouring edges with one requirement.
use Rattle.std.specs.Prelude.{if◌then◌else◌, List, [], ◌∷◌}
use Rattle.resolver_clause_store.specs.declared.Requirement.{Requirement}
use Rattle.resolver_report.specs.declared.graph.NodeId.{NodeId}
use Rattle.resolver_report.specs.declared.graph.ConflictEdge.{ConflictEdge}
use Rattle.resolver_report.specs.declared.graph.ConflictEdge.TheVariants.{Requires, Conflict}
use Rattle.resolver_report.specs.declared.graph.Edge.{Edge}
use Rattle.resolver_clause_store.specs.SameRequirements.{same_requirement}

-- neighbouring edges with one requirement, and their targets
pub record Run : Type 0 where
  pub requirement : Requirement
  pub targets : List NodeId

abbrev pub with_target : Requirement → NodeId → List Run → List Run
with_target r n [] = record { requirement = r; targets = n ∷ [] } ∷ []
with_target r n (run ∷ runs) = if same_requirement r run.requirement
    then record { requirement = r; targets = n ∷ run.targets } ∷ runs
    else record { requirement = r; targets = n ∷ [] } ∷ run ∷ runs

abbrev pub with_edge : {S : Type 0} → ConflictEdge S → NodeId → List Run → List Run
with_edge (Requires r) n runs = with_target r n runs
with_edge (Conflict c) n runs = runs

-- the runs of the requirement edges
abbrev pub runs_of : {S : Type 0} → List (Edge S) → List Run
runs_of [] = []
runs_of (e ∷ es) = with_edge e.weight e.target (runs_of es)
