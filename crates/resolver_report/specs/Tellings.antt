-- What the code writes for a tree, as the definitions take it.
use Rattle.std.specs.Prelude.{◌≡◌, ℕ, Bool, true, false, List, [], ◌∷◌, ◌++◌, IsSome, codes, map, slice_get, Option, length, MatchOption}
use Rattle.resolver_clause_store.specs.Universe.{Universe}
use Rattle.resolver_report.specs.declared.outline.NodeOutline.{NodeOutline}
use Rattle.resolver_report.specs.declared.tree.Outline.{Outline}
use Rattle.resolver_report.specs.ConflictGraphs.{shape_of}
use Rattle.resolver_report.specs.Forests.{Forest, Piece, quiet, said, text_of, indent_from}
use Rattle.resolver_report.specs.Marks.{installable}
use Rattle.resolver_report.specs.Merging.{Key, keys, group_in}
use Rattle.resolver_report.specs.Messages.{Told, RunTold, Verdict, excluded, alone, second, constrains, requires, constraint_line, is_quiet, lines_of}
use Rattle.resolver_report.specs.Messages.{reason_text, tell_candidate, tell_run, tree, tree_over, unmarked, version_text}
use Rattle.resolver_report.specs.Shapes.{ConflictShape, places, solvable_at}
use Rattle.resolver_report.specs.Simplified.{IsSimplified}
use Rattle.resolver_report.specs.Outlines.{groups_in, node_told, node_view}
use denote.Ref.{Bor}
use Rattle.resolver_report.specs.declared.graph.NodeId.{NodeId}
use Rattle.resolver_report.specs.declared.graph.Edge.{Edge}
use Rattle.resolver_report.specs.declared.indenter.Indenter.{Indenter}
use Rattle.resolver_clause_store.specs.declared.VersionSetId.{VersionSetId}
use Rattle.resolver_report.specs.Indents.{levels_in, text_below}

-- the text of a sibling at these levels
abbrev pub text_at : Bool → List Bool → Piece → List ℕ
text_at top levels quiet = []
text_at top levels (said text below) = indent_from top levels ++ text ++ 10 ∷ [] ++ text_of top levels below

abbrev pub is_requires : Verdict → Bool
is_requires (excluded reason) = false
is_requires alone = false
is_requires second = false
is_requires (constrains vs) = false
is_requires requires = true

-- the lines of version sets that a candidate would constrain
abbrev pub constraint_lines : {N S : Type 0} → Universe N S → Indenter → List VersionSetId → List ℕ
constraint_lines u it vs = text_below it (lines_of (map (constraint_line u) vs))

module _ {I N S : Type 0} (universe : I → Universe N S) (outline : Outline I N S) where
  abbrev pub meaning : Universe N S
  meaning = universe outline.interner.now

  abbrev pub graph_in : ConflictShape S
  graph_in = shape_of outline.findings.graph.now

  abbrev pub keys_in : List Key
  keys_in = keys (universe outline.interner.now) outline.findings.graph.now.graph

  abbrev pub marks_in : List Bool
  marks_in = installable (shape_of outline.findings.graph.now)

  abbrev pub candidate_in : ℕ → List Bool → ℕ → List Bool → Told Piece
  candidate_in depth branch n reported = tell_candidate meaning graph_in keys_in marks_in depth branch n reported

  abbrev pub run_in : ℕ → List Bool → Bool → RunTold → List Bool → Told Piece
  run_in depth branch top run reported = tell_run meaning graph_in keys_in marks_in (candidate_in depth branch) top run reported

  abbrev pub tree_in : ℕ → List Bool → Bool → List RunTold → List Bool → Told Forest
  tree_in depth branch top runs reported = tree_over meaning graph_in keys_in marks_in (candidate_in depth branch) top runs reported

  abbrev pub version_text_in : ℕ → List ℕ
  version_text_in n = version_text meaning graph_in keys_in marks_in n

  abbrev pub is_quiet_in : List Bool → ℕ → List Bool → Bool
  is_quiet_in branch n reported = is_quiet meaning graph_in keys_in marks_in branch n reported

  abbrev pub reason_in : NodeId → List ℕ
  reason_in n = reason_text meaning (slice_get outline.findings.graph.now.graph.nodes n.0)

  -- the text of a tree of runs, and of the tree of some of the root's edges
  abbrev pub runs_text : Bool → List RunTold → List ℕ
  runs_text top runs =
      let blank = unmarked outline.findings.graph.now.graph in
      text_of top [] (tree_in (length outline.findings.graph.now.graph.nodes) blank true runs blank).value

  abbrev pub edges_text : Bool → List (Edge S) → List ℕ
  edges_text top edges = text_of top [] (tree meaning graph_in keys_in marks_in edges)

  -- the outline has the groups, the marks and what is told of each node
  pub record IsOutline (same : S → S → Bool) : Type 0 where
    pub found_groups : (n : ℕ) → groups_in outline.findings n ≡ group_in keys_in n
    pub found_marks : outline.findings.installable.items ≡ marks_in
    pub groups : IsSimplified same meaning outline.findings.graph.now.graph outline.groups
    pub nodes : map node_view outline.nodes.items ≡ map (node_told graph_in (group_in keys_in) marks_in) (places outline.findings.graph.now.graph)

  -- a node that is told of
  pub record IsToldNode (branch : List Bool) (n : ℕ) (reported : List Bool) (node : NodeOutline) : Type 0 where
    pub loud : is_quiet_in branch n reported ≡ false
    pub solvable : IsSome (solvable_at outline.findings.graph.now.graph n)
    pub view : node_view node ≡ node_told graph_in (group_in keys_in) marks_in n

  -- the node is told of so, or is quiet
  abbrev pub IsToldAt : List Bool → ℕ → List Bool → Option (Bor NodeOutline) → Type 0
  IsToldAt branch n reported told = MatchOption told (is_quiet_in branch n reported ≡ true) (λ node. IsToldNode branch n reported node.now)

  -- what follows the versions of a candidate, up to its requirements
  abbrev pub verdict_rest : Bool → List Bool → Verdict → List ℕ
  verdict_rest top levels (excluded reason) = codes " is excluded because " ++ reason_in reason ++ 10 ∷ []
  verdict_rest top levels alone = 10 ∷ []
  verdict_rest top levels second = codes ", which conflicts with the versions reported above." ++ 10 ∷ []
  verdict_rest top levels (constrains vs) = (codes " would constrain" ++ 10 ∷ []) ++ text_of top levels (lines_of (map (constraint_line meaning) vs))
  verdict_rest top levels requires = codes " would require" ++ 10 ∷ []

  abbrev pub verdict_in : Indenter → Verdict → List ℕ
  verdict_in it verdict = verdict_rest it.top_level_indent (levels_in it) verdict

  -- the line of a candidate, up to its requirements
  abbrev pub candidate_text : Indenter → ℕ → Verdict → List ℕ
  candidate_text it n verdict = indent_from it.top_level_indent (levels_in it) ++ version_text_in n ++ verdict_in it verdict
