-- Maps from nodes to places.
use Rattle.std.specs.Prelude.{◌≡◌, ℕ, ◌+◌, Bool, List, ◌++◌, length}
use Rattle.std.specs.Option.{unwrap_or}
use Rattle.std.specs.HashMap.{HashMap, get}
use Rattle.std.specs.declared.hash.FoldHasher.{FoldHasher}
use Rattle.std.specs.declared.hash.BuildHasherDefault.{BuildHasherDefault}
use Rattle.resolver_report.specs.declared.graph.ConflictNode.{ConflictNode}
use Rattle.resolver_report.specs.Same.{same_node}
use Rattle.resolver_report.specs.Graphs.{place_in}

abbrev pub Places : Type 0 → Type 0
Places S = HashMap (ConflictNode S) ℕ (BuildHasherDefault FoldHasher)

-- the map has just the place of each node
abbrev pub HasPlaces : {S : Type 0} → (S → S → Bool) → List (ConflictNode S) → Places S → Type 0
HasPlaces {S} same nodes m = (n : ConflictNode S) → unwrap_or (get (same_node same) m n) (length nodes) ≡ place_in same nodes n

-- the map has just the places of the nodes that follow `first`
pub record HasPlacesFrom {S : Type 0} (same : S → S → Bool) (nodes first : List (ConflictNode S)) (m : Places S) : Type 0 where
  pub rest : List (ConflictNode S)
  pub are : nodes ≡ first ++ rest
  pub places : (n : ConflictNode S) → unwrap_or (get (same_node same) m n) (length nodes) ≡ length first + place_in same rest n
