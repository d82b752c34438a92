use Rattle.std.proofs.Common.{◌≡◌, drop}
use Rattle.resolver_report.specs.EdgePlaces.{lists_in}
use Rattle.resolver_report.specs.WorkLists.{after_waits}
use Rattle.resolver_report.proofs.implications.wait_at_each.Given as goal

abbrev pub invariant-loop-n : goal.invariant-loop-n
invariant-loop-n l = after_waits (lists_in l.table.items) (drop l.n-index l.nodes) l.waiting ≡ after_waits (lists_in l.fn.table.items) l.nodes l.waiting
