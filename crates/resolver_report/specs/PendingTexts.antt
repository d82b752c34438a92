-- What is still to be told of a tree, and its text.
use Rattle.std.specs.Prelude.{◌≡◌, ◌∷◌, ◌++◌, ◌+◌, ◌-◌, ◌<◌, ◌==◌, ℕ, zero, suc, Bool, true, false, if◌then◌else◌, List, [], length, map, replicate, reverse}
use Rattle.std.specs.Prelude.{slice_set, String, string_bytes}
use Rattle.resolver_clause_store.specs.Universe.{Universe}
use Rattle.resolver_report.specs.declared.graph.NodeId.{NodeId}
use Rattle.resolver_report.specs.declared.pending.Frame.{Frame}
use Rattle.resolver_report.specs.declared.pending.Pending.{Pending}
use Rattle.resolver_report.specs.declared.tree.Outline.{Outline}
use Rattle.resolver_report.specs.Forests.{text_of}
use Rattle.resolver_report.specs.Indents.{levels_in}
use Rattle.resolver_report.specs.Merging.{group_in}
use Rattle.resolver_report.specs.Messages.{RunTold, Told, side_by_side, told_of}
use Rattle.resolver_report.specs.Shapes.{outgoing}
use Rattle.resolver_report.specs.Outlines.{runs_view}
use Rattle.resolver_report.specs.Tellings.{candidate_in, graph_in, keys_in, marks_in, tree_in}
use Rattle.std.specs.Global.{Global}

-- a candidate whose tree is being told, and what comes after that tree
pub record FrameTold : Type 0 where
  pub node : ℕ
  pub candidates : List NodeId
  pub runs : List RunTold

abbrev pub frame_view : Frame → FrameTold
frame_view f = record { node = f.node.0; candidates = f.candidates.now; runs = runs_view f.runs.now }

-- What is still to be told: the candidates of the present run, the runs after it, and then what comes after each candidate above, nearest first.
pub record PendingTold : Type 0 where
  pub top_indent : Bool
  pub limit : ℕ
  pub frames : List FrameTold
  pub candidates : List NodeId
  pub runs : List RunTold
  pub reported : List Bool
  pub branch : List Bool

abbrev pub frames_view : List Frame → List FrameTold
frames_view fs = map frame_view (reverse fs)

abbrev pub pending_view : Pending → PendingTold
pending_view p = record {
  top_indent = p.indenter.top_level_indent;
  limit = p.limit;
  frames = frames_view p.frames.items;
  candidates = p.candidates.now;
  runs = runs_view p.runs.now;
  reported = p.reported.items;
  branch = p.branch.items;
}

abbrev pub is_none : {X : Type 0} → List X → Bool
is_none [] = true
is_none (x ∷ xs) = false

-- a candidate stands two levels below the tree of its run
abbrev pub levels_of : List FrameTold → List Bool
levels_of [] = []
levels_of (f ∷ fs) = levels_of fs ++ (length f.runs == 0) ∷ (length f.candidates == 0) ∷ []

-- the indenter has these levels
abbrev pub HasLevels : Pending → Type 0
HasLevels p = levels_in p.indenter ≡ levels_of (frames_view p.frames.items)

-- a whole tree, of which nothing is told yet
abbrev pub whole_tree : Bool → ℕ → List RunTold → PendingTold
whole_tree top_indent limit runs =
    record {
      top_indent = top_indent;
      limit = limit;
      frames = [];
      candidates = [];
      runs = runs;
      reported = replicate limit false;
      branch = replicate limit false;
    }

-- the tree of a candidate comes next; what comes after it is put into a frame
abbrev pub entered : PendingTold → ℕ → List NodeId → List RunTold → Bool → PendingTold
entered p n candidates runs top_indent = record {
  top_indent = top_indent;
  limit = p.limit;
  frames = (record { node = n; candidates = candidates; runs = p.runs }) ∷ p.frames;
  candidates = [];
  runs = runs;
  reported = p.reported;
  branch = slice_set p.branch n true;
}

-- a tree is finished, and what comes after its candidate is next
abbrev pub left_to : List FrameTold → PendingTold → PendingTold
left_to [] p = p
left_to (f ∷ fs) p = record {
  top_indent = p.top_indent;
  limit = p.limit;
  frames = fs;
  candidates = f.candidates;
  runs = f.runs;
  reported = p.reported;
  branch = slice_set p.branch f.node false;
}

abbrev pub left : PendingTold → PendingTold
left p = left_to p.frames p

-- the candidates to tell of below a run
abbrev pub below_run : RunTold → List NodeId
below_run run = if run.unresolved then [] else run.candidates

-- a bound of the steps for nodes and runs, given one for a candidate
abbrev pub nodes_work : (ℕ → ℕ) → List NodeId → ℕ
nodes_work work [] = 0
nodes_work work (n ∷ ns) = work n.0 + nodes_work work ns

abbrev pub runs_work : (ℕ → ℕ) → List RunTold → ℕ
runs_work work [] = 0
runs_work work (run ∷ runs) = 1 + nodes_work work run.candidates + runs_work work runs

module _ {I N S : Type 0} (universe : I → Universe N S) (outline : Outline I N S) where
  -- the text of the candidates left in a run, and of the runs after it
  abbrev pub left_told : Bool → List Bool → ℕ → List Bool → Bool → List NodeId → List RunTold → List Bool → Told (List ℕ)
  left_told top_indent levels depth branch top candidates runs reported =
      let told = side_by_side (λ n. candidate_in universe outline depth branch n.0) candidates reported in
      let rest = tree_in universe outline depth branch top runs told.reported in
      record { value = text_of top_indent (levels ++ (length runs == 0) ∷ []) told.value ++ text_of top_indent levels rest.value; reported = rest.reported }

  -- the text of what comes after each candidate whose tree is being told
  abbrev pub frames_text : Bool → ℕ → List FrameTold → List Bool → List Bool → List ℕ
  frames_text top_indent limit [] branch reported = []
  frames_text top_indent limit (f ∷ fs) branch reported =
      let told = left_told top_indent (levels_of fs) (limit - length fs) (slice_set branch f.node false) (is_none fs) f.candidates f.runs reported in
      told.value ++ frames_text top_indent limit fs (slice_set branch f.node false) told.reported

  -- the text of all that is still to be told
  abbrev pub pending_text : PendingTold → List ℕ
  pending_text p =
      let told = left_told p.top_indent (levels_of p.frames) (p.limit - length p.frames) p.branch (is_none p.frames) p.candidates p.runs p.reported in
      told.value ++ frames_text p.top_indent p.limit p.frames p.branch told.reported

  abbrev pub runs_at : ℕ → List RunTold
  runs_at n = told_of (graph_in universe outline) (group_in (keys_in universe outline)) (marks_in universe outline)
      (outgoing (graph_in universe outline).shape.edges n)

  -- a bound of the steps for a candidate
  abbrev pub candidate_work : ℕ → ℕ → ℕ
  candidate_work zero n = 1
  candidate_work (suc depth) n = 2 + runs_work (candidate_work depth) (runs_at n)

  abbrev pub left_work : ℕ → List NodeId → List RunTold → ℕ
  left_work depth candidates runs = nodes_work (candidate_work depth) candidates + runs_work (candidate_work depth) runs

  abbrev pub frames_work : ℕ → List FrameTold → ℕ
  frames_work limit [] = 0
  frames_work limit (f ∷ fs) = 1 + left_work (limit - length fs) f.candidates f.runs + frames_work limit fs

  abbrev pub telling_work : PendingTold → ℕ
  telling_work p = left_work (p.limit - length p.frames) p.candidates p.runs + frames_work p.limit p.frames

  -- one step: the text written and the text still to be told are together the same, and less is left to do
  pub record IsTellStep (old new : PendingTold) (out out' : List ℕ) : Type 0 where
    pub text : out' ++ pending_text new ≡ out ++ pending_text old
    pub work : telling_work new < telling_work old

  -- the same of what the code holds
  abbrev pub TellsPending : Pending → Pending → String Global → String Global → Type 0
  TellsPending old new out out' = IsTellStep (pending_view old) (pending_view new) (string_bytes out) (string_bytes out')
