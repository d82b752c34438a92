-- The view that callers have of a conflict.
use Rattle.std.specs.Prelude.{All, List}
use Rattle.resolver_clause_store.specs.TrueRules.{IsTrueRule}
use Rattle.resolver_clause_store.specs.Universe.{Universe, Demands}
use Rattle.resolver_clause_store.specs.declared.Rule.{Rule}
use Rattle.resolver_report.specs.Shapes.{ConflictShape}
use Rattle.resolver_report.specs.TrueEdges.{AreEdgesTrue}
use Rattle.resolvo.specs.declared.conflict.Conflict.{Conflict}

abbrev pub rules_in : {N S : Type 0} → Conflict N S → List (Rule N S)
rules_in c = c.rules.items

-- if the rules are true, the graph has true edges only
abbrev pub HasTrueEdges : {N S : Type 0} → List (Rule N S) → ConflictShape S → Type 0
HasTrueEdges {N} {S} rules graph = (u : Universe N S) (root : Demands) → All (IsTrueRule u root) rules → AreEdgesTrue u root graph.shape
