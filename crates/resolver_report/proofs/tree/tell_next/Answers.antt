use Rattle.std.proofs.Common.{ap, map, subst, sym}
use Rattle.std.specs.Prelude.{string_bytes}
use Rattle.resolver_report.specs.PendingTexts.{IsTellStep, PendingTold, frames_view, pending_view}
use Rattle.resolver_report.specs.Outlines.{run_told_view}
use Rattle.resolver_report.proofs.PendingLemmas.{left_step, no_item, some_frame}
use Rattle.resolver_report.proofs.tree.tell_next.Goals as goal

pub returns-clause-step : goal.returns-clause-step
returns-clause-step g c = λ more.
    let U = g.I.Interner.universe in
    let p = c.args.pending.now in
    let old = string_bytes c.args.out.now in
    let fs = frames_view p.frames.items in
    let Step : PendingTold → Type 0 = λ q. IsTellStep U c.args.outline.now (pending_view p) q old old in
    subst Step (sym c.leave-more.ensures.view)
    (left_step U c.args.outline.now p.indenter.top_level_indent p.limit fs p.candidates.now (map run_told_view p.runs.now) p.reported.items p.branch.items old
    (no_item p.candidates.now c.in_default.len_below) (ap (map run_told_view) (no_item p.runs.now c.in_default-runs.len_below))
    (some_frame fs c.leave-more.result c.leave-more.ensures.found more))
