use Rattle.std.proofs.Common.{◌≡◌, take}
use Rattle.resolver_report.specs.EdgePlaces.{lists_in}
use Rattle.resolver_report.specs.NodeImplications.{each_alone}
use Rattle.resolver_report.proofs.marks.alone_each.Given as goal

abbrev pub invariant-loop-n : goal.invariant-loop-n
invariant-loop-n l = lists_in l.groups.items ≡ each_alone (take l.n-index l.nodes)
