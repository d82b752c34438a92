use Rattle.std.proofs.Common.{◌≡◌, drop}
use Rattle.std.specs.Prelude.{slice_get}
use Rattle.resolver_report.specs.Messages.{reasons}
use Rattle.resolver_report.proofs.verdict.newest_reason.Given as goal

abbrev pub invariant-loop-edge : goal.invariant-loop-edge
invariant-loop-edge g l = slice_get (reasons l.edges) 0 ≡ slice_get (reasons (drop l.edge-index l.edges)) 0
