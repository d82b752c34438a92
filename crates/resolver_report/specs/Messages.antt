-- The message of a graph.
use Rattle.std.specs.Prelude.{ℕ, zero, suc, Bool, true, false, not, ◌==◌, ◌&&◌, ◌||◌, if◌then◌else◌, List, [], ◌∷◌, ◌++◌, codes, length, map, filter, reverse}
use Rattle.std.specs.Prelude.{Option, Some, None, is_some, replicate, slice_get, slice_set}
use Rattle.std.specs.List.{filter_map}
use Rattle.resolver_clause_store.specs.Lists.{without_repeats}
use Rattle.resolver_clause_store.specs.Universe.{Universe}
use Rattle.resolver_clause_store.specs.Candidates.{version_sets}
use Rattle.resolver_clause_store.specs.declared.Requirement.{Requirement}
use Rattle.resolver_clause_store.specs.declared.VersionSetId.{VersionSetId}
use Rattle.resolver_report.specs.declared.graph.NodeId.{NodeId}
use Rattle.resolver_report.specs.declared.graph.ConflictNode.{ConflictNode}
use Rattle.resolver_report.specs.declared.graph.ConflictNode.TheVariants.{Root, Solvable, UnresolvedDependency, Excluded as Reason}
use Rattle.resolver_report.specs.declared.graph.ConflictCause.TheVariants.{Locked, Constrains, ForbidMultipleInstances, Excluded}
use Rattle.resolver_report.specs.declared.graph.ConflictEdge.{ConflictEdge}
use Rattle.resolver_report.specs.declared.graph.ConflictEdge.TheVariants.{Requires, Conflict}
use Rattle.resolver_report.specs.declared.graph.Edge.{Edge}
use Rattle.resolver_report.specs.Causes.{constraint, has_second_instance, is_exclusion}
use Rattle.resolver_report.specs.Shapes.{Shape, ConflictShape, solvable_at, outgoing}
use Rattle.resolver_report.specs.Merging.{Key, keys, class_in, group_in, solvables_at}
use Rattle.resolver_report.specs.Runs.{Run, runs_of}
use Rattle.resolver_report.specs.Marks.{is_marked, some_marked, is_place, installable, missing}
use Rattle.resolver_report.specs.Forests.{Forest, nothing, silent, line, Piece, quiet, said, put, text_of}

-- Something that is told, and the groups that are reported afterwards. A group is reported if its first node is marked.
pub record Told (X : Type 0) : Type 0 where
  pub value : X
  pub reported : List Bool

-- texts of ids

abbrev pub version_set_text : {N S : Type 0} → Universe N S → VersionSetId → List ℕ
version_set_text u v = u.name_text (u.version_set_name v) ++ codes " " ++ u.version_set_text v

abbrev pub joined_texts : List (List ℕ) → List ℕ
joined_texts [] = []
joined_texts (t ∷ []) = t
joined_texts (t ∷ t' ∷ ts) = t ++ codes " | " ++ joined_texts (t' ∷ ts)

abbrev pub requirement_text : {N S : Type 0} → Universe N S → Requirement → List ℕ
requirement_text u r = joined_texts (map (version_set_text u) (version_sets u r))

-- the line of a run, at the top or below a candidate

abbrev pub is_unresolved : Option ℕ → List NodeId → Bool
is_unresolved unresolved (n ∷ []) = is_place unresolved n.0
is_unresolved unresolved ns = false

abbrev pub run_before : (top unresolved : Bool) → List ℕ
run_before true true = codes "No candidates were found for "
run_before true false = []
run_before false unresolved = []

abbrev pub run_after : (top unresolved viable : Bool) → List ℕ
run_after true true viable = codes "."
run_after false true viable = codes ", for which no candidates were found."
run_after true false true = codes " can be installed with any of the following options:"
run_after false false true = codes ", which can be installed with any of the following options:"
run_after true false false = codes " cannot be installed because there are no viable options:"
run_after false false false = codes ", which cannot be installed because there are no viable options:"

abbrev pub run_text : (top unresolved viable : Bool) → List ℕ → List ℕ
run_text top unresolved viable r = run_before top unresolved ++ r ++ run_after top unresolved viable

-- one of each run of equal neighbours
abbrev pub once_each : List VersionSetId → List VersionSetId
once_each [] = []
once_each (v ∷ []) = v ∷ []
once_each (v ∷ w ∷ vs) = if v.0 == w.0 then once_each (w ∷ vs) else v ∷ once_each (w ∷ vs)

-- lines side by side, with nothing below them
abbrev pub lines_of : List (List ℕ) → Forest
lines_of [] = nothing
lines_of (t ∷ ts) = line t nothing (lines_of ts)

-- siblings side by side; each is told after the groups of those before it are reported
abbrev pub side_by_side : {X : Type 0} → (X → List Bool → Told Piece) → List X → List Bool → Told Forest
side_by_side tell [] reported = record { value = nothing; reported = reported }
side_by_side tell (x ∷ xs) reported =
    let first = tell x reported in
    let rest = side_by_side tell xs first.reported in
    record { value = put first.value rest.value; reported = rest.reported }

-- What is said of a candidate. An exclusion has the place of its reason.
pub data Verdict : Type 0 where
  excluded : NodeId → Verdict
  alone : Verdict
  second : Verdict
  constrains : List VersionSetId → Verdict
  requires : Verdict

-- the targets of the exclusion edges
abbrev pub reasons : {S : Type 0} → List (Edge S) → List NodeId
reasons out = map (λ e. e.target) (filter (λ e. is_exclusion e.weight) out)

-- the version sets of the constraint edges
abbrev pub constraints : {S : Type 0} → List (Edge S) → List VersionSetId
constraints out = filter_map (λ e. constraint e.weight) out

abbrev pub verdict_by_constraints : List VersionSetId → Verdict
verdict_by_constraints [] = requires
verdict_by_constraints (v ∷ vs) = constrains (v ∷ vs)

abbrev pub verdict_unless_excluded : {S : Type 0} → List (Edge S) → Verdict
verdict_unless_excluded [] = alone
verdict_unless_excluded (e ∷ es) = if has_second_instance (e ∷ es) then second else verdict_by_constraints (once_each (constraints (e ∷ es)))

abbrev pub verdict_by : {S : Type 0} → Option NodeId → List (Edge S) → Verdict
verdict_by None out = verdict_unless_excluded out
verdict_by (Some n) out = excluded n

-- the verdict on a candidate, given its outgoing edges, newest first
abbrev pub verdict_of : {S : Type 0} → List (Edge S) → Verdict
verdict_of out = verdict_by (slice_get (reasons out) 0) out

abbrev pub constraint_text : {N S : Type 0} → Universe N S → VersionSetId → List ℕ
constraint_text u v = codes "the constraint " ++ version_set_text u v ++ codes " cannot be fulfilled"

abbrev pub lock_text : {N S : Type 0} → Universe N S → S → List ℕ
lock_text u s = u.merged_text (s ∷ []) ++ codes " is locked, but another version is required as reported above"

module _ {N S : Type 0} (u : Universe N S) where
  -- the root's own conflicts, one line each
  abbrev pub conflict_line : ConflictEdge S → Forest → Forest
  conflict_line (Conflict (Constrains v)) after = line (constraint_text u v) nothing after
  conflict_line (Conflict (Locked s)) after = line (lock_text u s) nothing after
  conflict_line (Conflict ForbidMultipleInstances) after = silent after
  conflict_line (Conflict Excluded) after = silent after
  conflict_line (Requires r) after = silent after

  abbrev pub conflict_lines : List (Edge S) → Forest
  conflict_lines [] = nothing
  conflict_lines (e ∷ es) = conflict_line e.weight (conflict_lines es)

  -- the text of these lines
  abbrev pub conflict_text : List (Edge S) → List ℕ
  conflict_text out = text_of true [] (conflict_lines out)

  abbrev pub constraint_line : VersionSetId → List ℕ
  constraint_line v = version_set_text u v ++ codes ", which conflicts with any installable versions previously reported"

-- the text of a reason's node
abbrev pub reason_text : {N S : Type 0} → Universe N S → Option (ConflictNode S) → List ℕ
reason_text u (Some (Reason r)) = u.string_text r
reason_text u (Some Root) = []
reason_text u (Some (Solvable s)) = []
reason_text u (Some UnresolvedDependency) = []
reason_text u None = []

-- what is told of a run: its requirement, whether that has no candidates at all, whether a target can be installed, and the candidates
pub record RunTold : Type 0 where
  pub requirement : Requirement
  pub unresolved : Bool
  pub viable : Bool
  pub candidates : List NodeId

abbrev pub same_group_as : Option ℕ → Option ℕ → Bool
same_group_as (Some a) (Some b) = a == b
same_group_as (Some a) None = false
same_group_as None b = false

abbrev pub is_reported : Option ℕ → List Bool → Bool
is_reported None reported = false
is_reported (Some group) reported = is_marked reported group

abbrev pub with_group : Option ℕ → List Bool → List Bool
with_group None reported = reported
with_group (Some group) reported = slice_set reported group true

-- marks of no node
abbrev pub unmarked : {S : Type 0} → Shape S → List Bool
unmarked g = replicate (length g.nodes) false

-- given the groups of the nodes, and the marks of those that can be installed
module _ {S : Type 0} (g : ConflictShape S) (group_of : ℕ → Option ℕ) (marks : List Bool) where
  -- both nodes are in one group
  abbrev pub same_group : ℕ → ℕ → Bool
  same_group m n = same_group_as (group_of m) (group_of n)

  abbrev pub is_viable : Run → Bool
  is_viable run = some_marked marks run.targets

  -- the order in which runs are told of: viable ones first, and older ones first among each
  abbrev pub runs_in_order : List (Edge S) → List Run
  runs_in_order edges = let runs = reverse (runs_of edges) in filter is_viable runs ++ filter (λ run. not (is_viable run)) runs

  abbrev pub is_candidate : Bool → ℕ → Bool
  is_candidate viable n = is_some (solvable_at g.shape n) && (not viable || is_marked marks n)

  -- the candidates of a run that are told of, oldest first, and of each group the newest
  abbrev pub candidates_of : Run → List NodeId
  candidates_of run = reverse (without_repeats (λ m n. same_group m.0 n.0) (filter (λ n. is_candidate (is_viable run) n.0) run.targets))

  abbrev pub told_of_run : Run → RunTold
  told_of_run run = record {
    requirement = run.requirement;
    unresolved = is_unresolved g.unresolved run.targets;
    viable = is_viable run;
    candidates = candidates_of run;
  }

  -- what is told of edges that come newest first
  abbrev pub told_of : List (Edge S) → List RunTold
  told_of edges = map told_of_run (runs_in_order edges)

-- the line of a run
abbrev pub run_line : {N S : Type 0} → Universe N S → Bool → RunTold → List ℕ
run_line u top run = run_text top run.unresolved run.viable (requirement_text u run.requirement)

-- given the keys of the nodes, and the marks of those that can be installed
module _ {N S : Type 0} (u : Universe N S) (g : ConflictShape S) (ks : List Key) (marks : List Bool) where
  -- the nodes of this one's group, or the node alone
  abbrev pub told_with : Option ℕ → ℕ → List ℕ
  told_with None n = n ∷ []
  told_with (Some group) n = class_in ks n

  abbrev pub version_text : ℕ → List ℕ
  version_text n = u.merged_text (solvables_at g.shape (told_with (group_in ks n) n))

  -- the lines of a candidate; below gives the lines of its requirements
  abbrev pub tell_verdict : (List Bool → Told Forest) → List ℕ → Verdict → List Bool → Told Piece
  tell_verdict below version (excluded reason) reported =
      record { value = said (version ++ codes " is excluded because " ++ reason_text u (slice_get g.shape.nodes reason.0)) nothing; reported = reported }
  tell_verdict below version alone reported = record { value = said version nothing; reported = reported }
  tell_verdict below version second reported =
      record { value = said (version ++ codes ", which conflicts with the versions reported above.") nothing; reported = reported }
  tell_verdict below version (constrains vs) reported =
      record { value = said (version ++ codes " would constrain") (lines_of (map (constraint_line u) vs)); reported = reported }
  tell_verdict below version requires reported = let told = below reported in
      record { value = said (version ++ codes " would require") told.value; reported = told.reported }

  -- the line of a run with its candidates below; tell gives the lines of one
  abbrev pub tell_run : (ℕ → List Bool → Told Piece) → Bool → RunTold → List Bool → Told Piece
  tell_run tell top run reported =
      if run.unresolved then record { value = said (run_line u top run) nothing; reported = reported }
      else (let told = side_by_side (λ n. tell n.0) run.candidates reported in record { value = said (run_line u top run) told.value; reported = told.reported })

  -- the tree of runs
  abbrev pub tree_over : (ℕ → List Bool → Told Piece) → Bool → List RunTold → List Bool → Told Forest
  tree_over tell top runs reported = side_by_side (tell_run tell top) runs reported

  -- a node is not told of if it is no solvable, its group is reported, or it is on the branch above
  abbrev pub is_quiet : List Bool → ℕ → List Bool → Bool
  is_quiet branch n reported = not (is_some (solvable_at g.shape n)) || is_reported (group_in ks n) reported || is_marked branch n

  -- The lines of a candidate below its branch. The first number bounds how many candidates the branch may still have.
  abbrev pub tell_candidate : ℕ → List Bool → ℕ → List Bool → Told Piece
  tell_candidate zero branch n reported = record { value = quiet; reported = reported }
  tell_candidate (suc depth) branch n reported =
      if is_quiet branch n reported then record { value = quiet; reported = reported }
      else (let out = outgoing g.shape.edges n in
      tell_verdict (tree_over (tell_candidate depth (slice_set branch n true)) false (told_of g (group_in ks) marks out)) (version_text n) (verdict_of out)
      (with_group (group_in ks n) reported))

  -- the tree of some of the root's edges
  abbrev pub tree : List (Edge S) → Forest
  tree edges = (tree_over (tell_candidate (length g.shape.nodes) (unmarked g.shape)) true (told_of g (group_in ks) marks edges) (unmarked g.shape)).value

  -- the part about requirements that nothing can fulfil
  abbrev pub missing_part : List (Edge S) → List ℕ
  missing_part [] = []
  missing_part (e ∷ es) = text_of false [] (tree (e ∷ es))

  -- the part about what is incompatible; out has all of the root's edges
  abbrev pub conflict_part : List (Edge S) → List (Edge S) → List ℕ
  conflict_part out [] = []
  conflict_part out (e ∷ es) =
      codes "The following packages are incompatible" ++ 10 ∷ []
      ++ text_of true [] (tree (e ∷ es))
      ++ conflict_text u out

-- the whole message
abbrev pub message : {N S : Type 0} → Universe N S → ConflictShape S → List ℕ
message {N} {S} u g =
    let out = outgoing g.shape.edges g.root in
    let is_missing = λ (e : Edge S). is_marked (missing g) e.target.0 in
    let ks = keys u g.shape in
    let marks = installable g in
    missing_part u g ks marks (filter is_missing out) ++ conflict_part u g ks marks out (filter (λ e. not (is_missing e)) out)
