use Rattle.std.proofs.Common.{◌≡◌, map}
use Rattle.std.specs.List.{range_with_len}
use Rattle.resolver_report.specs.Merging.{group_in, keys}
use Rattle.resolver_report.proofs.findings.groups_of.Given as goal

abbrev pub invariant-loop-n : goal.invariant-loop-n
invariant-loop-n g l = l.found.items ≡ map (group_in (keys (g.I.Interner.universe l.interner) l.graph.graph)) (range_with_len 0 l.n)
