use Rattle.resolver_report.specs.EdgePlaces.{AreEmpty, lists_in}
use Rattle.resolver_report.proofs.graph.empty_lists.Given as goal

abbrev pub invariant-loop-n : goal.invariant-loop-n
invariant-loop-n g l = AreEmpty l._n (lists_in l.lists.items)
