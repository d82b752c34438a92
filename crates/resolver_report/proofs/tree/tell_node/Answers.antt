use Rattle.std.proofs.lemmas.List.{length-map}
use Rattle.std.proofs.Common.{◌∙◌, ◌++◌, ◌∷◌, ◌<◌, ◌-◌, [], List, Bool, true, false, ap, length, map, arith, suc, subst, sym}
use Rattle.std.specs.Prelude.{◌==◌, slice_set, string_bytes}
use Rattle.resolver_report.specs.Forests.{indent_from, text_of}
use Rattle.resolver_report.specs.Indents.{levels_in}
use Rattle.resolver_report.specs.Messages.{with_group}
use Rattle.resolver_report.specs.PendingTexts.{FrameTold, IsTellStep, PendingTold, frames_view, levels_of, pending_view}
use Rattle.resolver_report.specs.Outlines.{run_told_view}
use Rattle.resolver_report.specs.Tellings.{text_at, tree_in, verdict_rest, version_text_in}
use Rattle.resolver_report.specs.Verdicts.{verdict_view}
use Rattle.resolver_report.proofs.CandidateLemmas.{more_reported, more_text, off_branch, quiet_reported, quiet_text}
use Rattle.resolver_report.proofs.PendingLemmas.{candidate_levels, candidate_step, count_frames, enter_step, node_whole}
use Rattle.resolver_report.proofs.tree.tell_node.Goals as goal

pub returns-then-not-requires_more-clause-step : goal.returns-then-not-requires_more-clause-step
returns-then-not-requires_more-clause-step g c =
    let U = g.I.Interner.universe in
    let s = c.args.outline.now in
    let p = c.args.pending.now in
    let n = c.args.n in
    let node = c.args.node.now in
    let verdict = verdict_view node.verdict in
    let fs = frames_view p.frames.items in
    let runs = map run_told_view p.runs.now in
    let top = p.indenter.top_level_indent in
    let levels = (levels_of fs ++ (length runs == 0) ∷ []) ++ (length c.args.rest.now == 0) ∷ [] in
    let old = string_bytes c.args.out.now in
    let new = string_bytes c.write_candidate.new.out in
    let version = version_text_in U s n.0 in
    let marked = slice_set p.branch.items n.0 true in
    let below = λ (r : List Bool). tree_in U s (p.limit - suc (length fs)) marked false (map run_told_view node.runs.items) r in
    let deep : length fs < p.limit = omega (arith, c.requires.deep, count_frames p.frames.items) in
    let whole = node_whole U s p.limit fs p.branch.items n.0 p.reported.items node c.requires.node deep in
    let same = c.in_ok-deeper.ensures.levels ∙ candidate_levels (levels_in p.indenter) (levels_of fs) p.runs.now c.args.rest.now c.requires.levels in
    let wrote = c.in_ok-write_candidate.ensures.ok
    ∙ (λ i. old ++ (indent_from (c.in_ok-deeper.ensures.top i) (same i) ++ version ++ verdict_rest U s (c.in_ok-deeper.ensures.top i) (same i) verdict)) in
    let more = sym c.requires_more.ensures ∙ c.if-not-requires_more.true in
    let told = with_group node.group p.reported.items in
    candidate_step U s top p.limit fs p.branch.items p.candidates.now n c.args.rest.now runs p.reported.items c.report.new.reported.items
    (indent_from top levels ++ version ++ verdict_rest U s top levels verdict) old new c.requires.candidates
    (ap (λ t. text_at top levels t.value) whole ∙ quiet_text U s top levels below version verdict told more)
    (ap (λ t. t.reported) whole ∙ quiet_reported U s top levels below version verdict told more ∙ sym c.report.ensures)
    wrote

pub returns-clause-step : goal.returns-clause-step
returns-clause-step g c =
    let U = g.I.Interner.universe in
    let s = c.args.outline.now in
    let p = c.args.pending.now in
    let n = c.args.n in
    let node = c.args.node.now in
    let verdict = verdict_view node.verdict in
    let fs = frames_view p.frames.items in
    let runs = map run_told_view p.runs.now in
    let top = p.indenter.top_level_indent in
    let levels = (levels_of fs ++ (length runs == 0) ∷ []) ++ (length c.args.rest.now == 0) ∷ [] in
    let old = string_bytes c.args.out.now in
    let new = string_bytes c.write_candidate.new.out in
    let version = version_text_in U s n.0 in
    let marked = slice_set p.branch.items n.0 true in
    let below = λ (r : List Bool). tree_in U s (p.limit - suc (length fs)) marked false (map run_told_view node.runs.items) r in
    let deep : length fs < p.limit = omega (arith, c.requires.deep, count_frames p.frames.items) in
    let whole = node_whole U s p.limit fs p.branch.items n.0 p.reported.items node c.requires.node deep in
    let same = c.in_ok-deeper.ensures.levels ∙ candidate_levels (levels_in p.indenter) (levels_of fs) p.runs.now c.args.rest.now c.requires.levels in
    let wrote = c.in_ok-write_candidate.ensures.ok
    ∙ (λ i. old ++ (indent_from (c.in_ok-deeper.ensures.top i) (same i) ++ version ++ verdict_rest U s (c.in_ok-deeper.ensures.top i) (same i) verdict)) in
    let more = sym c.requires_more.ensures ∙ c.if-not-requires_more.false in
    let told = with_group node.group p.reported.items in
    let line = indent_from top levels ++ version ++ verdict_rest U s top levels verdict in
    let frame : FrameTold = record { node = n.0; candidates = c.args.rest.now; runs = runs } in
    let Step : PendingTold → Type 0 = λ q. IsTellStep U s (pending_view p) q old new in
    let view = c.in_ok-enter.ensures.view
    ∙ (λ i. record {
      top_indent = c.in_ok-deeper.ensures.top i;
      limit = p.limit;
      frames = frame ∷ fs;
      candidates = [];
      runs = map run_told_view (c.deref.ensures.value i);
      reported = c.report.new.reported.items;
      branch = marked;
    }) in
    subst Step (sym view)
    (enter_step U s top p.limit fs p.branch.items p.candidates.now n c.args.rest.now runs
    (map run_told_view node.runs.items) p.reported.items c.report.new.reported.items line old new c.requires.candidates
    (ap (λ t. text_at top levels t.value) whole ∙ more_text U s top levels below version verdict told more ∙
    ap (λ r. line ++ text_of top levels (below r).value) (sym c.report.ensures))
    (ap (λ t. t.reported) whole ∙ more_reported U s top levels below version verdict told more ∙ ap (λ r. (below r).reported) (sym c.report.ensures))
    wrote (off_branch U s p.branch.items n.0 p.reported.items c.requires.node.loud) (ap (λ t. t.runs) c.requires.node.view) deep)

pub returns-clause-levels : goal.returns-clause-levels
returns-clause-levels g c =
    let runs = c.args.pending.now.runs.now in
    ap levels_in c.in_ok-enter.ensures.indenter ∙ c.in_ok-deeper.ensures.levels
    ∙ (λ i. c.requires.levels i ++ (ap (λ n. n == 0) (sym (length-map runs run_told_view))) i ∷ (length c.args.rest.now == 0) ∷ [])
    ∙ sym (ap (λ (q : PendingTold). levels_of q.frames) c.in_ok-enter.ensures.view)

pub returns-then-not-requires_more-clause-levels : goal.returns-then-not-requires_more-clause-levels
returns-then-not-requires_more-clause-levels g c = c.requires.levels

pub returns-clause-memory : goal.returns-clause-memory
returns-clause-memory g c = tt

pub returns-then-not-requires_more-clause-memory : goal.returns-then-not-requires_more-clause-memory
returns-then-not-requires_more-clause-memory g c = tt
