-- A graph: nodes, and edges between them.
use Rattle.std.specs.Prelude.{ℕ, ◌<◌, ◌==◌, List, length, filter, reverse, All, Option, Some, None, slice_get}
use Rattle.std.specs.List.{range_with_len}
use Rattle.resolver_clause_store.specs.Lists.{HasNoRepeats}
use Rattle.resolver_clause_store.specs.declared.Requirement.{Requirement}
use Rattle.resolver_report.specs.declared.graph.ConflictNode.{ConflictNode}
use Rattle.resolver_report.specs.declared.graph.ConflictNode.TheVariants.{Root, Solvable, UnresolvedDependency, Excluded}
use Rattle.resolver_report.specs.declared.graph.ConflictEdge.{ConflictEdge}
use Rattle.resolver_report.specs.declared.graph.ConflictEdge.TheVariants.{Requires, Conflict}
use Rattle.resolver_report.specs.declared.graph.Edge.{Edge}

pub record Shape (S : Type 0) : Type 0 where
  pub nodes : List (ConflictNode S)
  pub edges : List (Edge S)

-- both ends of each edge are nodes, and no node stands twice
pub record IsShape {S : Type 0} (g : Shape S) : Type 0 where
  pub sources : All (λ e. e.source.0 < length g.nodes) g.edges
  pub targets : All (λ e. e.target.0 < length g.nodes) g.edges
  pub once : HasNoRepeats g.nodes

-- the edges from a node, newest first
abbrev pub outgoing : {S : Type 0} → List (Edge S) → ℕ → List (Edge S)
outgoing edges n = filter (λ e. e.source.0 == n) (reverse edges)

-- the edges to a node, newest first
abbrev pub incoming : {S : Type 0} → List (Edge S) → ℕ → List (Edge S)
incoming edges n = filter (λ e. e.target.0 == n) (reverse edges)

-- a graph with its root and its unresolved node
pub record ConflictShape (S : Type 0) : Type 0 where
  pub shape : Shape S
  pub root : ℕ
  pub unresolved : Option ℕ

-- the places of the nodes
abbrev pub places : {S : Type 0} → Shape S → List ℕ
places g = range_with_len 0 (length g.nodes)

abbrev pub as_solvable : {S : Type 0} → Option (ConflictNode S) → Option S
as_solvable (Some (Solvable s)) = Some s
as_solvable (Some Root) = None
as_solvable (Some UnresolvedDependency) = None
as_solvable (Some (Excluded reason)) = None
as_solvable None = None

-- the solvable of a node, if it is one
abbrev pub solvable_at : {S : Type 0} → Shape S → ℕ → Option S
solvable_at g n = as_solvable (slice_get g.nodes n)

-- the requirement of an edge, or `None` if it is a conflict
abbrev pub required : {S : Type 0} → ConflictEdge S → Option Requirement
required (Requires r) = Some r
required (Conflict c) = None
