-- Equality tests for the parts of a graph.
use Rattle.std.specs.Prelude.{Bool, true, false, ◌==◌}
use Rattle.resolver_report.specs.declared.graph.ConflictNode.{ConflictNode}
use Rattle.resolver_report.specs.declared.graph.ConflictNode.TheVariants.{Root, Solvable, UnresolvedDependency, Excluded}

abbrev pub same_node : {S : Type 0} → (S → S → Bool) → ConflictNode S → ConflictNode S → Bool
same_node same Root Root = true
same_node same (Solvable s) (Solvable t) = same s t
same_node same UnresolvedDependency UnresolvedDependency = true
same_node same (Excluded a) (Excluded b) = a.0 == b.0
same_node same a b = false
