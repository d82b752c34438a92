use Rattle.std.proofs.Common.{◌≡◌}
use Rattle.resolver_report.specs.EdgePlaces.{lists_in}
use Rattle.resolver_report.specs.WorkLists.{up_to_unmarked}
use Rattle.resolver_report.proofs.implications.up_to_unmarked.Given as goal

abbrev pub invariant-loop-rest : goal.invariant-loop-rest
invariant-loop-rest l = up_to_unmarked l.marks (lists_in l.groups) l.left ≡ up_to_unmarked l.marks (lists_in l.groups) l.rest

abbrev pub decreases-loop-rest : goal.decreases-loop-rest
decreases-loop-rest l = l.rest
