use Rattle.std.proofs.Common.{◌≡◌}
use Rattle.resolver_report.specs.Causes.{has_exclusion}
use Rattle.resolver_report.specs.Edges.{incoming_left}
use Rattle.resolver_report.specs.Shapes.{incoming}
use Rattle.resolver_report.proofs.marks.is_excluded.Given as goal

abbrev pub invariant-loop-edge : goal.invariant-loop-edge
invariant-loop-edge g l = has_exclusion (incoming_left l.edge-iterator) ≡ has_exclusion (incoming l.graph.edges l.fn.n.0)
