use Rattle.resolver_report.specs.Merging.{keys}
use Rattle.resolver_report.specs.Simplified.{IsSimplifiedBefore}
use Rattle.resolver_report.proofs.graph.ConflictGraph.simplify.Given as goal

abbrev pub invariant-loop-n : goal.invariant-loop-n
invariant-loop-n g l = IsSimplifiedBefore g.S.PartialEq.eq (keys (g.I.Interner.universe l.interner) l.self.graph) l.self.graph l.n l.groups
