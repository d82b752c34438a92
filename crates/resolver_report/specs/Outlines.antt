-- Outlines, as the definitions of a message take them.
use Rattle.std.specs.Prelude.{◌≡◌, ℕ, Bool, true, false, nat_eq, not, List, map, Option, Some, None, slice_get, ◌++◌, ◌∷◌, [], if◌then◌else◌, filter}
use Rattle.std.specs.List.{list_any}
use Rattle.std.specs.HashSet.{HashSet, contains}
use Rattle.std.specs.declared.hash.FoldHasher.{FoldHasher}
use Rattle.std.specs.declared.hash.BuildHasherDefault.{BuildHasherDefault}
use Rattle.resolver_report.specs.declared.graph.NodeId.{NodeId}
use Rattle.resolver_report.specs.declared.outline.Findings.{Findings}
use Rattle.resolver_report.specs.declared.outline.RunOutline.{RunOutline}
use Rattle.resolver_report.specs.declared.outline.NodeOutline.{NodeOutline}
use Rattle.resolver_report.specs.ConflictGraphs.{shape_of}
use Rattle.resolver_report.specs.Messages.{RunTold, Verdict, is_candidate, is_viable, same_group_as, told_of, told_of_run, verdict_of}
use Rattle.resolver_report.specs.Runs.{Run}
use Rattle.resolver_report.specs.Shapes.{ConflictShape, outgoing, places}
use Rattle.resolver_report.specs.Verdicts.{verdict_view}
use Rattle.resolver_report.specs.declared.graph.Edge.{Edge}

-- the group that a table has for a node
abbrev pub known_group : Option (Option ℕ) → Option ℕ
known_group None = None
known_group (Some group) = group

abbrev pub group_of_node : List (Option ℕ) → ℕ → Option ℕ
group_of_node groups n = known_group (slice_get groups n)

abbrev pub groups_in : {S : Type 0} → Findings S → ℕ → Option ℕ
groups_in f n = group_of_node f.groups.items n

abbrev pub run_told_view : RunOutline → RunTold
run_told_view s = record { requirement = s.requirement; unresolved = s.is_unresolved; viable = s.is_viable; candidates = s.candidates.items }

abbrev pub runs_view : List RunOutline → List RunTold
runs_view runs = map run_told_view runs

module _ {S : Type 0} (f : Findings S) where
  -- a run tells of the node
  abbrev pub is_candidate_of : Bool → ℕ → Bool
  is_candidate_of viable n = is_candidate (shape_of f.graph.now) (groups_in f) f.installable.items viable n

  -- the viability of the run is the wanted one
  abbrev pub has_viability : Bool → Run → Bool
  has_viability true run = is_viable (shape_of f.graph.now) (groups_in f) f.installable.items run
  has_viability false run = not (is_viable (shape_of f.graph.now) (groups_in f) f.installable.items run)

  abbrev pub run_told : Run → RunTold
  run_told run = told_of_run (shape_of f.graph.now) (groups_in f) f.installable.items run

  -- what is told of the runs with the wanted viability
  abbrev pub runs_told : Bool → List Run → List RunTold
  runs_told wanted runs = map run_told (filter (has_viability wanted) runs)

  abbrev pub edges_told : List (Edge S) → List RunTold
  edges_told edges = told_of (shape_of f.graph.now) (groups_in f) f.installable.items edges

-- what is told of a node
pub record NodeTold : Type 0 where
  pub group : Option ℕ
  pub verdict : Verdict
  pub runs : List RunTold

abbrev pub node_told : {S : Type 0} → ConflictShape S → (ℕ → Option ℕ) → List Bool → ℕ → NodeTold
node_told g group_of marks n =
    let out = outgoing g.shape.edges n in
    record { group = group_of n; verdict = verdict_of out; runs = told_of g group_of marks out }

abbrev pub node_view : NodeOutline → NodeTold
node_view s = record { group = s.group; verdict = verdict_view s.verdict; runs = runs_view s.runs.items }

abbrev pub nodes_told : {S : Type 0} → Findings S → List NodeTold
nodes_told f = map (node_told (shape_of f.graph.now) (groups_in f) f.installable.items) (places f.graph.now.graph)

abbrev pub GroupsTold : Type 0
GroupsTold = HashSet ℕ (BuildHasherDefault FoldHasher)

-- both nodes are in one group
abbrev pub are_together : List (Option ℕ) → NodeId → NodeId → Bool
are_together groups m n = same_group_as (group_of_node groups m.0) (group_of_node groups n.0)

-- the nodes, and this one unless one of its group is among them
abbrev pub with_node : List (Option ℕ) → NodeId → List NodeId → List NodeId
with_node groups n found = if list_any (are_together groups n) found then found else found ++ n ∷ []

-- the set has just the groups of these nodes
abbrev pub HasGroupsOf : List (Option ℕ) → List NodeId → GroupsTold → Type 0
HasGroupsOf groups found told = (k : ℕ) → contains nat_eq told k ≡ list_any (λ m. same_group_as (Some k) (group_of_node groups m.0)) found
