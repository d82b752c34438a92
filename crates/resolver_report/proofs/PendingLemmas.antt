-- Steps of telling a tree.
use Rattle.std.proofs.Common.{◌≡◌, ℕ, zero, suc, ◌+◌, ◌-◌, ◌<◌, ◌≤◌, Bool, true, false, List, [], ◌∷◌, ◌++◌, length, map, refl, sym, ◌∙◌, ap, arith}
use Rattle.std.proofs.Common.{append_assoc}
use Rattle.std.proofs.lemmas.Bool.{true≢false}
use Rattle.std.specs.Prelude.{◌==◌, IsTrue, not, reverse, slice_set}
use Rattle.std.proofs.lemmas.List.{length-map, length-reverse, reverse-append}
use Rattle.resolver_clause_store.specs.Universe.{Universe}
use Rattle.resolver_clause_store.specs.declared.Requirement.{Requirement}
use Rattle.resolver_report.specs.declared.graph.NodeId.{NodeId}
use Rattle.resolver_report.specs.declared.pending.Frame.{Frame}
use Rattle.resolver_report.specs.declared.tree.Outline.{Outline}
use Rattle.resolver_report.specs.Forests.{text_of, indent_from}
use Rattle.resolver_report.specs.Marks.{is_marked}
use Rattle.resolver_report.specs.Messages.{RunTold, requirement_text, run_text, side_by_side, tell_verdict, with_group}
use Rattle.resolver_report.specs.PendingTexts.{FrameTold, IsTellStep, PendingTold, below_run, candidate_work, frame_view, frames_text, frames_view, is_none}
use Rattle.resolver_report.specs.PendingTexts.{left_to, left_told, levels_of, nodes_work, pending_text, runs_at, runs_work, telling_work}
use Rattle.resolver_report.specs.Tellings.{IsToldNode, candidate_in, graph_in, keys_in, marks_in, meaning, run_in, text_at, tree_in, version_text_in}
use Rattle.resolver_report.specs.Outlines.{run_told_view}
use Rattle.resolver_report.specs.Verdicts.{verdict_view}
use Rattle.resolver_report.specs.declared.outline.NodeOutline.{NodeOutline}
use Rattle.resolver_report.specs.declared.outline.RunOutline.{RunOutline}
use Rattle.resolver_report.proofs.CandidateLemmas.{told_candidate}
use Rattle.resolver_report.proofs.ConflictLemmas.{some_left}
use Rattle.resolver_report.proofs.TreeLemmas.{side_step, unset}

-- a frame is put on top of the others
pub frames_pushed : (fs : List Frame) (f : Frame) → frames_view (fs ++ f ∷ []) ≡ frame_view f ∷ frames_view fs
frames_pushed fs f = ap (map frame_view) (reverse-append fs (f ∷ []))

pub count_frames : (fs : List Frame) → length (frames_view fs) ≡ length fs
count_frames fs = length-map (reverse fs) frame_view ∙ length-reverse fs

is_none_length : {X : Type 0} (xs : List X) → is_none xs ≡ (length xs == 0)
is_none_length [] = refl
is_none_length (x ∷ xs) = sym (some_left (length xs))

pub no_frames : (fs : List Frame) (b : Bool) → b ≡ (length fs == 0) → b ≡ is_none (frames_view fs)
no_frames fs b e = e ∙ ap (λ n. n == 0) (sym (count_frames fs)) ∙ sym (is_none_length (frames_view fs))

pub no_item : {X : Type 0} (xs : List X) → length xs < 1 → xs ≡ []
no_item [] h = refl
no_item (x ∷ xs) h = absurd (omega (arith, h))

pub some_frame : (fs : List FrameTold) (b : Bool) → b ≡ not (is_none fs) → IsTrue b → is_none fs ≡ false
some_frame [] b e h = absurd (true≢false (sym h ∙ e))
some_frame (f ∷ fs) b e h = refl

-- the levels of the lines of a run and of a candidate
pub run_levels : (levels have : List Bool) (last : Bool) (rest : List RunOutline) → levels ≡ have → last ≡ (length rest == 0) → levels ++ last ∷ [] ≡ have ++
    (length (map run_told_view rest) == 0) ∷ []
run_levels levels have last rest same is = λ i. same i ++ (is ∙ ap (λ n. n == 0) (sym (length-map rest run_told_view))) i ∷ []

pub candidate_levels : (levels have : List Bool) (runs : List RunOutline) (rest : List NodeId) → levels ≡ have →
    levels ++ (length runs == 0) ∷ (length rest == 0) ∷ [] ≡ (have ++ (length (map run_told_view runs) == 0) ∷ []) ++ (length rest == 0) ∷ []
candidate_levels levels have runs rest same =
    (λ i. same i ++ (ap (λ n. n == 0) (sym (length-map runs run_told_view))) i ∷ (length rest == 0) ∷ [])
    ∙ sym (append_assoc have ((length (map run_told_view runs) == 0) ∷ []) ((length rest == 0) ∷ []))

joined : (o l x y z : List ℕ) → (o ++ l) ++ ((x ++ y) ++ z) ≡ o ++ (((l ++ x) ++ y) ++ z)
joined o l x y z = append_assoc o l ((x ++ y) ++ z) ∙ ap (λ w. o ++ w) (sym (append_assoc l (x ++ y) z) ∙ ap (λ w. w ++ z) (sym (append_assoc l x y)))

module _ {I N S : Type 0} (universe : I → Universe N S) (outline : Outline I N S) where
  work_some : (depth n : ℕ) → 0 < candidate_work universe outline depth n
  work_some zero n = omega arith
  work_some (suc depth) n = omega arith

  below_work : (work : ℕ → ℕ) (requirement : Requirement) (unresolved viable : Bool) (cs : List NodeId) →
      nodes_work work (below_run (record { requirement = requirement; unresolved = unresolved; viable = viable; candidates = cs })) ≤ nodes_work work cs
  below_work work requirement true viable cs = omega arith
  below_work work requirement false viable cs = omega arith

  module _ (top_indent : Bool) (limit : ℕ) (fs : List FrameTold) (branch : List Bool) where
    abbrev pub at : List NodeId → List RunTold → List Bool → PendingTold
    at cs rs reported = record { top_indent = top_indent; limit = limit; frames = fs; candidates = cs; runs = rs; reported = reported; branch = branch }

    run_piece : (levels : List Bool) (requirement : Requirement) (unresolved viable : Bool) (cs : List NodeId) (reported : List Bool) →
        let r : RunTold = record { requirement = requirement; unresolved = unresolved; viable = viable; candidates = cs } in
        text_at top_indent levels (run_in universe outline (limit - length fs) branch (is_none fs) r reported).value
        ≡ (indent_from top_indent levels ++ run_text (is_none fs) unresolved viable (requirement_text (meaning universe outline) requirement) ++ 10 ∷ []) ++
        text_of top_indent levels (side_by_side (λ n. candidate_in universe outline (limit - length fs) branch n.0) (below_run r) reported).value
    run_piece levels requirement true viable cs reported = refl
    run_piece levels requirement false viable cs reported = refl

    run_reported : (requirement : Requirement) (unresolved viable : Bool) (cs : List NodeId) (reported : List Bool) →
        let r : RunTold = record { requirement = requirement; unresolved = unresolved; viable = viable; candidates = cs } in
        (run_in universe outline (limit - length fs) branch (is_none fs) r reported).reported ≡
        (side_by_side (λ n. candidate_in universe outline (limit - length fs) branch n.0) (below_run r) reported).reported
    run_reported requirement true viable cs reported = refl
    run_reported requirement false viable cs reported = refl

    run_text_step : (r : RunTold) (rs : List RunTold) (reported : List Bool) (out out' : List ℕ) →
        out' ≡ out ++ (indent_from top_indent (levels_of fs ++ (length rs == 0) ∷ []) ++
        run_text (is_none fs) r.unresolved r.viable (requirement_text (meaning universe outline) r.requirement) ++ 10 ∷ []) →
        out' ++ pending_text universe outline (at (below_run r) rs reported) ≡ out ++ pending_text universe outline (at [] (r ∷ rs) reported)
    run_text_step r rs reported out out' wrote =
        let depth = limit - length fs in
        let lv = levels_of fs in
        let below = side_by_side (λ (n : NodeId). candidate_in universe outline depth branch n.0) (below_run r) reported in
        let tree = λ (reported : List Bool). tree_in universe outline depth branch (is_none fs) rs reported in
        let after = λ (reported : List Bool). frames_text universe outline top_indent limit fs branch reported in
        let line = indent_from top_indent (lv ++ (length rs == 0) ∷ []) ++
        run_text (is_none fs) r.unresolved r.viable (requirement_text (meaning universe outline) r.requirement) ++ 10 ∷ [] in
        let piece = run_piece (lv ++ (length rs == 0) ∷ []) r.requirement r.unresolved r.viable r.candidates reported in
        let grew = run_reported r.requirement r.unresolved r.viable r.candidates reported in
        ap (λ o. o ++ pending_text universe outline (at (below_run r) rs reported)) wrote
        ∙ joined out line (text_of top_indent (lv ++ (length rs == 0) ∷ []) below.value) (text_of top_indent lv (tree below.reported).value)
        (after (tree below.reported).reported)
        ∙ sym (
        ap (λ w. out ++ (w ++ after (tree (run_in universe outline depth branch (is_none fs) r reported).reported).reported))
        (side_step top_indent lv (run_in universe outline depth branch (is_none fs)) r rs reported)
        ∙ (λ i. out ++ ((piece i ++ text_of top_indent lv (tree (grew i)).value) ++ after (tree (grew i)).reported))
        )

    -- a step writes the line of a run
    pub run_step : (cs : List NodeId) (all : List RunTold) (r : RunTold) (rs : List RunTold) (reported : List Bool) (out out' : List ℕ) → cs ≡ [] → all ≡ r ∷
        rs →
        out' ≡ out ++ (indent_from top_indent (levels_of fs ++ (length rs == 0) ∷ []) ++
        run_text (is_none fs) r.unresolved r.viable (requirement_text (meaning universe outline) r.requirement) ++ 10 ∷ []) →
        IsTellStep universe outline (at cs all reported) (at (below_run r) rs reported) out out'
    run_step cs all r rs reported out out' none some wrote =
        let work = candidate_work universe outline (limit - length fs) in
        let before : telling_work universe outline (at cs all reported) ≡ telling_work universe outline (at [] (r ∷ rs) reported) =
        λ i. telling_work universe outline (at (none i) (some i) reported) in
        record {
          text = run_text_step r rs reported out out' wrote ∙ (λ i. out ++ pending_text universe outline (at ((sym none) i) ((sym some) i) reported));
          work = omega (arith, before, below_work work r.requirement r.unresolved r.viable r.candidates);
        }

    spoke : (n : NodeId) (cs : List NodeId) (rs : List RunTold) (reported reported' : List Bool) (w out out' : List ℕ) →
        text_at top_indent ((levels_of fs ++ (length rs == 0) ∷ []) ++ (length cs == 0) ∷ [])
        (candidate_in universe outline (limit - length fs) branch n.0 reported).value ≡ w →
        (candidate_in universe outline (limit - length fs) branch n.0 reported).reported ≡ reported' →
        out' ≡ out ++ w →
        out' ++ pending_text universe outline (at cs rs reported') ≡ out ++ pending_text universe outline (at (n ∷ cs) rs reported)
    spoke n cs rs reported reported' w out out' text grew wrote =
        let depth = limit - length fs in
        let lv = levels_of fs in
        let lvr = lv ++ (length rs == 0) ∷ [] in
        let tell = λ (n : NodeId). candidate_in universe outline depth branch n.0 in
        let side = λ (reported : List Bool). side_by_side tell cs reported in
        let tree = λ (reported : List Bool). tree_in universe outline depth branch (is_none fs) rs reported in
        let after = λ (reported : List Bool). frames_text universe outline top_indent limit fs branch reported in
        ap (λ o. o ++ pending_text universe outline (at cs rs reported')) wrote
        ∙ joined out w (text_of top_indent lvr (side reported').value) (text_of top_indent lv (tree (side reported').reported).value)
        (after (tree (side reported').reported).reported)
        ∙ sym (
        ap (λ v. out ++ ((v ++ text_of top_indent lv (tree (side (tell n reported).reported).reported).value) ++
        after (tree (side (tell n reported).reported).reported).reported)) (side_step top_indent lvr tell n cs reported)
        ∙ (λ i. out ++ (((text i ++ text_of top_indent lvr (side (grew i)).value) ++ text_of top_indent lv (tree (side (grew i)).reported).value) ++
        after (tree (side (grew i)).reported).reported))
        )

    -- a step writes a candidate with nothing below it
    pub candidate_step : (all : List NodeId) (n : NodeId) (cs : List NodeId) (rs : List RunTold) (reported reported' : List Bool) (w out out' : List ℕ) →
        all ≡ n ∷ cs →
        text_at top_indent ((levels_of fs ++ (length rs == 0) ∷ []) ++ (length cs == 0) ∷ [])
        (candidate_in universe outline (limit - length fs) branch n.0 reported).value ≡ w →
        (candidate_in universe outline (limit - length fs) branch n.0 reported).reported ≡ reported' →
        out' ≡ out ++ w →
        IsTellStep universe outline (at all rs reported) (at cs rs reported') out out'
    candidate_step all n cs rs reported reported' w out out' some text grew wrote =
        let before : telling_work universe outline (at all rs reported) ≡ telling_work universe outline (at (n ∷ cs) rs reported) =
        λ i. telling_work universe outline (at (some i) rs reported) in
        record {
          text = spoke n cs rs reported reported' w out out' text grew wrote ∙ (λ i. out ++ pending_text universe outline (at ((sym some) i) rs reported));
          work = omega (arith, before, work_some (limit - length fs) n.0);
        }

    -- a step enters the tree of a candidate
    pub enter_step : (all : List NodeId) (n : NodeId) (cs : List NodeId) (rs runs : List RunTold) (reported reported' : List Bool) (w out out' : List ℕ) →
        all ≡ n ∷ cs →
        let f : FrameTold = record { node = n.0; candidates = cs; runs = rs } in
        let depth = limit - suc (length fs) in
        let levels = (levels_of fs ++ (length rs == 0) ∷ []) ++ (length cs == 0) ∷ [] in
        let told = tree_in universe outline depth (slice_set branch n.0 true) false runs reported' in
        text_at top_indent levels (candidate_in universe outline (limit - length fs) branch n.0 reported).value ≡ w ++ text_of top_indent levels told.value →
        (candidate_in universe outline (limit - length fs) branch n.0 reported).reported ≡ told.reported →
        out' ≡ out ++ w → is_marked branch n.0 ≡ false → runs ≡ runs_at universe outline n.0 → length fs < limit →
        IsTellStep universe outline (at all rs reported)
        (record {
          top_indent = top_indent;
          limit = limit;
          frames = f ∷ fs;
          candidates = [];
          runs = runs;
          reported = reported';
          branch = slice_set branch n.0 true;
        }) out out'
    enter_step all n cs rs runs reported reported' w out out' some text grew wrote off are deep =
        let f : FrameTold = record { node = n.0; candidates = cs; runs = rs } in
        let depth = limit - suc (length fs) in
        let lv = levels_of fs in
        let levels = (lv ++ (length rs == 0) ∷ []) ++ (length cs == 0) ∷ [] in
        let same : levels ≡ levels_of (f ∷ fs) = append_assoc lv ((length rs == 0) ∷ []) ((length cs == 0) ∷ []) in
        let told = tree_in universe outline depth (slice_set branch n.0 true) false runs reported' in
        let v = text_of top_indent levels told.value in
        let back = unset branch n.0 off in
        let left = λ (b : List Bool). left_told universe outline top_indent lv (limit - length fs) b (is_none fs) cs rs told.reported in
        let entered : PendingTold = record {
          top_indent = top_indent;
          limit = limit;
          frames = f ∷ fs;
          candidates = [];
          runs = runs;
          reported = reported';
          branch = slice_set branch n.0 true;
        } in
        let before : telling_work universe outline (at all rs reported) ≡ telling_work universe outline (at (n ∷ cs) rs reported) =
        λ i. telling_work universe outline (at (some i) rs reported) in
        let next : limit - length fs ≡ suc depth = omega (arith, deep) in
        let work : candidate_work universe outline (limit - length fs) n.0 ≡ 2 + runs_work (candidate_work universe outline depth) runs =
        ap (λ d. candidate_work universe outline d n.0) next ∙ ap (λ r. 2 + runs_work (candidate_work universe outline depth) r) (sym are) in
        record {
          text =
              (λ i. out' ++ (text_of top_indent ((sym same) i) told.value ++
              ((left (back i)).value ++ frames_text universe outline top_indent limit fs (back i) (left (back i)).reported)))
              ∙ sym (append_assoc out' v ((left branch).value ++ frames_text universe outline top_indent limit fs branch (left branch).reported))
              ∙ spoke n cs rs reported told.reported (w ++ v) out (out' ++ v) text grew (ap (λ o. o ++ v) wrote ∙ append_assoc out w v)
              ∙ (λ i. out ++ pending_text universe outline (at ((sym some) i) rs reported));
          work = omega (arith, before, work);
        }

    -- a step leaves a tree
    pub leave_step : (f : FrameTold) (cs : List NodeId) (rs : List RunTold) (all : List FrameTold) (b reported : List Bool) (out : List ℕ) → cs ≡ [] → rs ≡ [] →
        all ≡ f ∷ fs → branch ≡ slice_set b f.node false →
        IsTellStep universe outline (record {
          top_indent = top_indent;
          limit = limit;
          frames = all;
          candidates = cs;
          runs = rs;
          reported =
              reported;
          branch = b;
        })
        (at f.candidates f.runs reported) out out
    leave_step f cs rs all b reported out none done are back =
        let old = λ (cs : List NodeId) (rs : List RunTold) (all : List FrameTold). let p : PendingTold =
        record { top_indent = top_indent; limit = limit; frames = all; candidates = cs; runs = rs; reported = reported; branch = b } in p in
        let after = λ (b : List Bool). let p : PendingTold =
        record { top_indent = top_indent; limit = limit; frames = fs; candidates = f.candidates; runs = f.runs; reported = reported; branch = b } in p in
        let before : telling_work universe outline (old cs rs all) ≡ telling_work universe outline (old [] [] (f ∷ fs)) =
        λ i. telling_work universe outline (old (none i) (done i) (are i)) in
        record {
          text = (λ i. out ++ pending_text universe outline (after (back i))) ∙
              (λ i. out ++ pending_text universe outline (old ((sym none) i) ((sym done) i) ((sym are) i)));
          work = omega (arith, before);
        }

  -- the text of a node if the branch may have one more candidate
  pub node_whole : (limit : ℕ) (fs : List FrameTold) (branch : List Bool) (n : ℕ) (reported : List Bool) (node : NodeOutline) →
      IsToldNode universe outline branch n reported node → length fs < limit →
      candidate_in universe outline (limit - length fs) branch n reported ≡ tell_verdict (meaning universe outline) (graph_in universe outline)
      (keys_in universe outline) (marks_in universe outline) (λ r.
      tree_in universe outline (limit - suc (length fs)) (slice_set branch n true) false (map run_told_view node.runs.items) r)
      (version_text_in universe outline n) (verdict_view node.verdict) (with_group node.group reported)
  node_whole limit fs branch n reported node told deep =
      let next : limit - length fs ≡ suc (limit - suc (length fs)) = omega (arith, deep) in
      ap (λ d. candidate_in universe outline d branch n reported) next ∙ told_candidate universe outline branch n reported node told (limit - suc (length fs))

  pub left_step : (top_indent : Bool) (limit : ℕ) (all : List FrameTold) (cs : List NodeId) (rs : List RunTold) (reported b : List Bool) (out : List ℕ) →
      cs ≡ [] → rs ≡ [] → is_none all ≡ false →
      let p : PendingTold = record { top_indent = top_indent; limit = limit; frames = all; candidates = cs; runs = rs; reported = reported; branch = b } in
      IsTellStep universe outline p (left_to all p) out out
  left_step top_indent limit [] cs rs reported b out none done some = absurd (true≢false some)
  left_step top_indent limit (f ∷ fs) cs rs reported b out none done some =
      leave_step top_indent limit fs (slice_set b f.node false) f cs rs (f ∷ fs) b reported out none done refl refl
