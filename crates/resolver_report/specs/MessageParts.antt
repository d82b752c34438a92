-- A message in its parts.
use Rattle.std.specs.Prelude.{ℕ, List, ◌++◌, ◌∷◌, [], true, codes}
use Rattle.resolver_clause_store.specs.Universe.{Universe}
use Rattle.resolver_report.specs.declared.message.MessageParts.{MessageParts}
use Rattle.resolver_report.specs.Messages.{conflict_part, conflict_text, missing_part}
use Rattle.resolver_report.specs.Tellings.{edges_text, graph_in, keys_in, marks_in, meaning}
use Rattle.resolver_report.specs.declared.tree.Outline.{Outline}
use Rattle.resolver_report.specs.declared.graph.Edge.{Edge}

module _ {I N S : Type 0} (universe : I → Universe N S) (outline : Outline I N S) where
  abbrev pub missing_in : List (Edge S) → List ℕ
  missing_in edges = missing_part (meaning universe outline) (graph_in universe outline) (keys_in universe outline) (marks_in universe outline) edges

  abbrev pub conflict_in : List (Edge S) → List (Edge S) → List ℕ
  conflict_in root_edges edges =
      conflict_part (meaning universe outline) (graph_in universe outline) (keys_in universe outline) (marks_in universe outline) root_edges edges

  -- the same where there are edges
  abbrev pub incompatible_in : List (Edge S) → List (Edge S) → List ℕ
  incompatible_in root_edges edges =
      codes "The following packages are incompatible" ++ 10 ∷ [] ++ edges_text universe outline true edges ++ conflict_text (meaning universe outline) root_edges

-- the message that these parts make
abbrev pub message_in : {I N S : Type 0} → (I → Universe N S) → MessageParts I N S → List ℕ
message_in universe parts =
    missing_in universe parts.outline parts.lost.items ++ conflict_in universe parts.outline parts.root_edges.items parts.left.items
