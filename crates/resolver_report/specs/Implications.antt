-- Implications between marks.
use Rattle.std.specs.Prelude.{◌≡◌, ℕ, ◌==◌, Bool, ◌&&◌, List, length}
use Rattle.std.specs.List.{list_any, list_all}
use Rattle.resolver_report.specs.declared.implications.Implication.{Implication}
use Rattle.resolver_report.specs.declared.graph.NodeId.{NodeId}
use Rattle.resolver_report.specs.EdgePlaces.{lists_in}
use Rattle.resolver_report.specs.Marks.{IsLeastClosed, some_marked}

-- an implication: if each group has a marked node, the node is marked
pub record Implied : Type 0 where
  pub groups : List (List NodeId)
  pub node : ℕ

abbrev pub implied : Implication → Implied
implied i = record { groups = lists_in i.groups.items; node = i.node.0 }

abbrev pub each_marked : List Bool → List (List NodeId) → Bool
each_marked marks groups = list_all (some_marked marks) groups

-- the implication marks node n, given the marks
abbrev pub implies : List Bool → ℕ → Implied → Bool
implies marks n i = i.node == n && each_marked marks i.groups

-- some implication marks it
abbrev pub is_implied : List Implied → List Bool → ℕ → Bool
is_implied is marks n = list_any (implies marks n) is

-- the fewest marks of `count` nodes that obey the implications
pub record HasLeastMarks (count : ℕ) (is : List Implied) (marks : List Bool) : Type 0 where
  pub long : length marks ≡ count
  pub least : IsLeastClosed count (is_implied is) marks
