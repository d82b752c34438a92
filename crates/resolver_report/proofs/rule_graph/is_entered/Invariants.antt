use Rattle.std.proofs.Common.{◌≡◌, drop}
use Rattle.resolver_report.specs.Graphs.{is_entered}
use Rattle.resolver_report.proofs.rule_graph.is_entered.Given as goal

abbrev pub invariant-loop-link : goal.invariant-loop-link
invariant-loop-link g l = is_entered g.S.PartialEq.eq l.links ≡ is_entered g.S.PartialEq.eq (drop l.link-index l.links)
