use Rattle.std.proofs.Common.{◌≡◌, ◌++◌, map, take}
use Rattle.resolver_report.specs.declared.graph.ConflictNode.TheVariants.{Solvable}
use Rattle.resolver_report.proofs.rule_graph.add_solvables.Given as goal

abbrev pub invariant-loop-solvable : goal.invariant-loop-solvable
invariant-loop-solvable g l = l.found.items ≡ l.initial.found.items ++ map Solvable (take l.solvable-index l.solvables)
