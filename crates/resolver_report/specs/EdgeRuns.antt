-- An `EdgeRun` as a run, and runs with one more edge.
use Rattle.std.specs.Prelude.{List, [], ◌∷◌, ◌++◌, if◌then◌else◌}
use Rattle.resolver_clause_store.specs.declared.Requirement.{Requirement}
use Rattle.resolver_report.specs.declared.graph.NodeId.{NodeId}
use Rattle.resolver_report.specs.declared.runs.EdgeRun.{EdgeRun}
use Rattle.resolver_clause_store.specs.SameRequirements.{same_requirement}
use Rattle.resolver_report.specs.Runs.{Run}

abbrev pub run_view : EdgeRun → Run
run_view run = record { requirement = run.requirement; targets = run.targets.items }

abbrev pub new_run : Requirement → List NodeId → Run
new_run r ns = record { requirement = r; targets = ns }

-- the runs, with one more edge at the end
abbrev pub and_then : Requirement → NodeId → List Run → List Run
and_then r n [] = record { requirement = r; targets = n ∷ [] } ∷ []
and_then r n (run ∷ []) = if same_requirement run.requirement r
    then record { requirement = run.requirement; targets = run.targets ++ n ∷ [] } ∷ []
    else run ∷ record { requirement = r; targets = n ∷ [] } ∷ []
and_then r n (run ∷ next ∷ runs) = run ∷ and_then r n (next ∷ runs)
