use Rattle.std.proofs.Common.{◌≡◌, ◌++◌, map, take}
use Rattle.resolver_report.specs.EdgeRuns.{run_view}
use Rattle.resolver_report.specs.Implications.{implied}
use Rattle.resolver_report.specs.NodeImplications.{all_of_run}
use Rattle.resolver_report.proofs.marks.add_runs.Given as goal

abbrev pub invariant-loop-run : goal.invariant-loop-run
invariant-loop-run l = map implied l.found.items ≡ map implied l.fn.found.items ++ map (all_of_run l.n.0) (map run_view (take l.run-index l.runs))
