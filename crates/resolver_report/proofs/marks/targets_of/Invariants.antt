use Rattle.std.proofs.Common.{◌≡◌, map, take}
use Rattle.resolver_report.specs.EdgePlaces.{lists_in}
use Rattle.resolver_report.specs.EdgeRuns.{run_view}
use Rattle.resolver_report.proofs.marks.targets_of.Given as goal

abbrev pub invariant-loop-run : goal.invariant-loop-run
invariant-loop-run l = lists_in l.groups.items ≡ map (λ run. run.targets) (map run_view (take l.run-index l.runs))
