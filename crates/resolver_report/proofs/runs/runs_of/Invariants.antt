use Rattle.std.proofs.Common.{◌≡◌, take, map}
use Rattle.resolver_report.specs.Runs.{runs_of}
use Rattle.resolver_report.specs.EdgeRuns.{run_view}
use Rattle.resolver_report.proofs.runs.runs_of.Given as goal

abbrev pub invariant-loop-edge : goal.invariant-loop-edge
invariant-loop-edge g l = map run_view l.runs.items ≡ runs_of (take l.edge-index l.edges)
