-- The nodes of a graph that can be installed, and those that are missing.
use Rattle.std.specs.Prelude.{◌≡◌, ℕ, zero, suc, ◌<◌, Bool, true, false, not, ◌==◌, ◌&&◌, ◌||◌, List, [], length, map, Option, Some, None, slice_get, unwrap_or}
use Rattle.std.specs.List.{list_any, list_all}
use Rattle.resolver_report.specs.declared.graph.NodeId.{NodeId}
use Rattle.resolver_report.specs.Causes.{has_conflict, has_exclusion}
use Rattle.resolver_report.specs.Runs.{runs_of}
use Rattle.resolver_report.specs.Shapes.{Shape, ConflictShape, places, outgoing, incoming}

-- Whether the node at a place is marked. A place past the end is not.
abbrev pub is_marked : List Bool → ℕ → Bool
is_marked marks n = unwrap_or (slice_get marks n) false

-- some node of the list is marked, or each is
abbrev pub some_marked : List Bool → List NodeId → Bool
some_marked marks ns = list_any (λ n. is_marked marks n.0) ns

abbrev pub all_marked : List Bool → List NodeId → Bool
all_marked marks ns = list_all (λ n. is_marked marks n.0) ns

abbrev pub is_place : Option ℕ → ℕ → Bool
is_place None n = false
is_place (Some m) n = m == n

-- A node can be installed if it is not the unresolved one, has no exclusion and no conflict, and each run has a target that can be installed.
abbrev pub can_be_installed : {S : Type 0} → ConflictShape S → List Bool → ℕ → Bool
can_be_installed g marks n =
    not (is_place g.unresolved n)
    && not (has_exclusion (incoming g.shape.edges n))
    && not (has_conflict (outgoing g.shape.edges n))
    && list_all (λ run. some_marked marks run.targets) (runs_of (outgoing g.shape.edges n))

-- A node is missing if it is the unresolved one, or has no conflict and a run whose targets are all missing.
abbrev pub must_be_missing : {S : Type 0} → ConflictShape S → List Bool → ℕ → Bool
must_be_missing g marks n =
    is_place g.unresolved n
    || (not (has_conflict (outgoing g.shape.edges n))
    && list_any (λ run. all_marked marks run.targets) (runs_of (outgoing g.shape.edges n)))

-- What a rule marks in so many rounds. In each round the rule is given the marks of the round before.
abbrev pub marked_in : {S : Type 0} → Shape S → (List Bool → ℕ → Bool) → ℕ → List Bool
marked_in g rule zero = []
marked_in g rule (suc rounds) = map (rule (marked_in g rule rounds)) (places g)

-- what the rule marks in as many rounds as there are nodes
abbrev pub marked : {S : Type 0} → Shape S → (List Bool → ℕ → Bool) → List Bool
marked g rule = marked_in g rule (length g.nodes)

abbrev pub installable : {S : Type 0} → ConflictShape S → List Bool
installable g = marked g.shape (can_be_installed g)

abbrev pub missing : {S : Type 0} → ConflictShape S → List Bool
missing g = marked g.shape (must_be_missing g)

-- each node that the rule marks, given these marks, is marked
abbrev pub IsClosed : ℕ → (List Bool → ℕ → Bool) → List Bool → Type 0
IsClosed count rule marks = (n : ℕ) → n < count → rule marks n ≡ true → is_marked marks n ≡ true

-- these are the fewest marks that are closed under the rule
pub record IsLeastClosed (count : ℕ) (rule : List Bool → ℕ → Bool) (marks : List Bool) : Type 0 where
  pub closed : IsClosed count rule marks
  pub least : (others : List Bool) → IsClosed count rule others → (n : ℕ) → is_marked marks n ≡ true → is_marked others n ≡ true
