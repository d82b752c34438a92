use Rattle.std.proofs.Common.{◌≡◌, length}
use Rattle.resolver_report.specs.Edges.{outgoing_left}
use Rattle.resolver_report.proofs.graph.OutgoingIterator.next.Given as goal

abbrev pub invariant-loop-last : goal.invariant-loop-last
invariant-loop-last g l = outgoing_left l.self ≡ outgoing_left l.initial.self

abbrev pub decreases-loop-last : goal.decreases-loop-last
decreases-loop-last g l = length l.self.rest.now
