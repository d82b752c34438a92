-- Paths of edges from the root to the nodes of a graph.
use Rattle.std.specs.Prelude.{◌≡◌, ℕ, ◌<◌, length, Contains, Some, None, Bool, List}
use Rattle.resolver_clause_store.specs.declared.Requirement.{Requirement}
use Rattle.resolver_report.specs.declared.graph.Edge.{Edge}
use Rattle.resolver_report.specs.declared.graph.ConflictEdge.TheVariants.{Requires as Required}
use Rattle.resolver_report.specs.Shapes.{ConflictShape, solvable_at}
use Rattle.resolver_clause_store.specs.Laws.{IsIdentity}
use Rattle.resolver_clause_store.specs.declared.Rule.{Rule}
use Rattle.resolver_report.specs.Graphs.{graph_of}

-- the root's place, or that of a solvable to which a path of requirement edges leads from the root, through solvables only
pub data IsWalkedTo {S : Type 0} (g : ConflictShape S) : ℕ → Type 0 where
  at_root : IsWalkedTo g g.root
  by_requirement : (e : Edge S) (r : Requirement) (s : S) → Contains g.shape.edges e → e.weight ≡ Required r → solvable_at g.shape e.target.0 ≡ Some s →
      IsWalkedTo g e.source.0 → IsWalkedTo g e.target.0

-- such a place, or the target, no solvable, of an edge from such a place
pub data IsReachedPlace {S : Type 0} (g : ConflictShape S) : ℕ → Type 0 where
  by_walk : {k : ℕ} → IsWalkedTo g k → IsReachedPlace g k
  by_edge : (e : Edge S) → Contains g.shape.edges e → solvable_at g.shape e.target.0 ≡ None → IsWalkedTo g e.source.0 → IsReachedPlace g e.target.0

-- every node is reached
abbrev pub AreNodesReached : {S : Type 0} → ConflictShape S → Type 0
AreNodesReached g = (k : ℕ) → k < length g.shape.nodes → IsReachedPlace g k

-- in the graph of the rules each node is reached
abbrev pub HasReachedGraph : {N S : Type 0} → List (Rule N S) → Type 0
HasReachedGraph {N} {S} rules =
    (same_name : N → N → Bool) (same : S → S → Bool) → IsIdentity same → AreNodesReached (graph_of same_name same rules)
