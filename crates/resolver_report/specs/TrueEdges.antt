-- Edges that are true of a provider and a problem.
use Rattle.std.specs.Prelude.{◌≡◌, List, [], Some, All, Contains, slice_get, Bool}
use Rattle.resolver_clause_store.specs.Universe.{Universe, Demands}
use Rattle.resolver_clause_store.specs.Candidates.{others, requirement_candidates}
use Rattle.resolver_clause_store.specs.Valid.{demands_of}
use Rattle.resolver_clause_store.specs.declared.ConditionalRequirement.{ConditionalRequirement}
use Rattle.resolver_clause_store.specs.declared.Requirement.{Requirement}
use Rattle.resolver_clause_store.specs.declared.StringId.{StringId}
use Rattle.resolver_report.specs.declared.graph.ConflictNode.{ConflictNode}
use Rattle.resolver_report.specs.declared.graph.ConflictNode.TheVariants.{Root, Solvable, UnresolvedDependency, Excluded as Reason}
use Rattle.resolver_report.specs.declared.graph.ConflictCause.TheVariants.{Locked, Constrains as ByConstraint, ForbidMultipleInstances, Excluded as ByExclusion}
use Rattle.resolver_report.specs.declared.graph.ConflictEdge.{ConflictEdge}
use Rattle.resolver_report.specs.declared.graph.ConflictEdge.TheVariants.{Requires as Required, Conflict}
use Rattle.resolver_report.specs.declared.graph.Edge.{Edge}
use Rattle.resolver_clause_store.specs.declared.Rule.TheVariants.{Lock, Excluded}
use Rattle.resolver_report.specs.Shapes.{Shape}
use Rattle.resolver_clause_store.specs.TrueRules.{IsTrueRule}
use Rattle.resolver_clause_store.specs.Laws.{IsIdentity}
use Rattle.resolver_clause_store.specs.declared.Rule.{Rule}
use Rattle.resolver_report.specs.Graphs.{graph_of}

-- the node is a solvable of which P holds
abbrev pub IsSolvableWith : {S : Type 0} → (S → Type 0) → ConflictNode S → Type 0
IsSolvableWith P Root = ⊥
IsSolvableWith P (Solvable s) = P s
IsSolvableWith P UnresolvedDependency = ⊥
IsSolvableWith P (Reason r) = ⊥

-- the node is a reason of which P holds
abbrev pub IsReasonWith : {S : Type 0} → (StringId → Type 0) → ConflictNode S → Type 0
IsReasonWith P Root = ⊥
IsReasonWith P (Solvable s) = ⊥
IsReasonWith P UnresolvedDependency = ⊥
IsReasonWith P (Reason r) = P r

-- the node is the root or a solvable, and P holds of its demands
abbrev pub IsRequirerWith : {N S : Type 0} → Universe N S → Demands → (Demands → Type 0) → ConflictNode S → Type 0
IsRequirerWith u root P Root = P root
IsRequirerWith u root P (Solvable s) = P (demands_of (u.needs s))
IsRequirerWith u root P UnresolvedDependency = ⊥
IsRequirerWith u root P (Reason r) = ⊥

-- the demands have the requirement, whatever its condition
abbrev pub DemandsRequirement : Requirement → Demands → Type 0
DemandsRequirement requirement d = (r : ConditionalRequirement) × Contains d.requirements r × (r.requirement ≡ requirement)

-- the node is one of the candidates, or the unresolved node where there are none
abbrev pub IsCandidateNode : {S : Type 0} → List S → ConflictNode S → Type 0
IsCandidateNode candidates Root = ⊥
IsCandidateNode candidates (Solvable s) = Contains candidates s
IsCandidateNode candidates UnresolvedDependency = candidates ≡ []
IsCandidateNode candidates (Reason r) = ⊥

-- what the edge says from the first node to the second is stated by the provider or the problem
abbrev pub IsTrueBetween : {N S : Type 0} → Universe N S → Demands → ConflictNode S → ConflictEdge S → ConflictNode S → Type 0
IsTrueBetween u root source (Required requirement) target = IsRequirerWith u root (DemandsRequirement requirement) source ×
    IsCandidateNode (requirement_candidates u requirement) target
IsTrueBetween u root source (Conflict (ByConstraint v)) target = IsRequirerWith u root (λ d. Contains d.constraints v) source ×
    IsSolvableWith (Contains (others u v)) target
IsTrueBetween u root source (Conflict (Locked locked)) target = (source ≡ Root) × IsSolvableWith (λ s. IsTrueRule u root (Lock locked s)) target
IsTrueBetween u root source (Conflict ByExclusion) target = IsSolvableWith (λ s. IsReasonWith (λ r. IsTrueRule u root (Excluded s r)) target) source
IsTrueBetween u root source (Conflict ForbidMultipleInstances) target = IsSolvableWith (λ s. IsSolvableWith (λ t. u.name s ≡ u.name t) target) source

-- both ends of the edge are nodes, and what it says is true between them
pub record IsTrueEdge {N S : Type 0} (u : Universe N S) (root : Demands) (g : Shape S) (e : Edge S) : Type 0 where
  pub source : ConflictNode S
  pub target : ConflictNode S
  pub source_stands : slice_get g.nodes e.source.0 ≡ Some source
  pub target_stands : slice_get g.nodes e.target.0 ≡ Some target
  pub true_between : IsTrueBetween u root source e.weight target

-- each edge of the graph is true
abbrev pub AreEdgesTrue : {N S : Type 0} → Universe N S → Demands → Shape S → Type 0
AreEdgesTrue u root g = All (IsTrueEdge u root g) g.edges

-- the graph of the rules has true edges only
abbrev pub HasTrueGraph : {N S : Type 0} → Universe N S → Demands → List (Rule N S) → Type 0
HasTrueGraph {N} {S} u root rules =
    (same_name : N → N → Bool) (same : S → S → Bool) → IsIdentity same_name → IsIdentity same → AreEdgesTrue u root (graph_of same_name same rules).shape
