use Rattle.std.proofs.Common.{◌∙◌, ◌++◌, ◌∷◌, [], List, ap, map, subst, sym}
use Rattle.std.specs.Prelude.{◌==◌, string_bytes}
use Rattle.resolver_report.specs.declared.graph.NodeId.{NodeId}
use Rattle.resolver_report.specs.Forests.{indent_from}
use Rattle.resolver_report.specs.Indents.{is_last_child, levels_in}
use Rattle.resolver_report.specs.Messages.{requirement_text, run_text}
use Rattle.resolver_report.specs.PendingTexts.{IsTellStep, frames_view, levels_of, pending_view}
use Rattle.resolver_report.specs.Outlines.{run_told_view}
use Rattle.resolver_report.proofs.PendingLemmas.{at, no_frames, run_levels, run_step}
use Rattle.resolver_report.proofs.tree.tell_run.Goals as goal

pub returns-clause-step : goal.returns-clause-step
returns-clause-step g c =
    let U = g.I.Interner.universe in
    let p = c.args.pending.now in
    let fs = frames_view p.frames.items in
    let run = run_told_view c.args.run.now in
    let rest = map run_told_view c.args.rest.now in
    let old = string_bytes c.args.out.now in
    let new = string_bytes c.write_run_line.new.out in
    let levels = c.in_ok-deeper.ensures.levels ∙
    run_levels (levels_in p.indenter) (levels_of fs) (is_last_child c.before-order.result) c.args.rest.now c.requires.levels c.before-order.ensures in
    let top = no_frames p.frames.items c.is_empty-top.result (c.is_empty-top.ensures ∙ ap (λ n. n == 0) p.frames.ok.0) in
    let wrote = c.in_ok-write_run_line.ensures.ok
    ∙ (λ i. old ++ (indent_from (c.in_ok-deeper.ensures.top i) (levels i) ++
    run_text (top i) run.unresolved run.viable (requirement_text (U c.args.outline.now.interner.now) run.requirement) ++ 10 ∷ [])) in
    let Step : List NodeId → Type 0 =
    λ below. IsTellStep U c.args.outline.now (pending_view p)
    (at U c.args.outline.now p.indenter.top_level_indent p.limit fs p.branch.items below rest p.reported.items) old new in
    subst Step (sym c.below_run-pending.ensures)
    (run_step U c.args.outline.now p.indenter.top_level_indent p.limit fs p.branch.items p.candidates.now
    (map run_told_view p.runs.now) run rest p.reported.items old new c.requires.candidates (ap (map run_told_view) c.requires.runs) wrote)
