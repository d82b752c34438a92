use Rattle.std.proofs.Common.{◌∙◌, ◌++◌, ◌∷◌, ◌-◌, [], ap, length, map, sym}
use Rattle.std.specs.Prelude.{◌==◌, string_bytes}
use Rattle.std.proofs.lemmas.List.{append-nil}
use Rattle.resolver_report.specs.Messages.{is_quiet}
use Rattle.resolver_report.specs.PendingTexts.{frames_view, levels_of}
use Rattle.resolver_report.specs.Outlines.{run_told_view}
use Rattle.resolver_report.specs.Tellings.{graph_in, keys_in, marks_in, text_at}
use Rattle.resolver_report.proofs.CandidateLemmas.{quiet_candidate}
use Rattle.resolver_report.proofs.PendingLemmas.{candidate_step}
use Rattle.resolver_report.proofs.tree.tell_candidate.Goals as goal

pub returns-in_default-clause-step : goal.returns-in_default-clause-step
returns-in_default-clause-step g c =
    let U = g.I.Interner.universe in
    let s = c.args.outline.now in
    let p = c.args.pending.now in
    let n = c.args.n in
    let fs = frames_view p.frames.items in
    let runs = map run_told_view p.runs.now in
    let top = p.indenter.top_level_indent in
    let levels = (levels_of fs ++ (length runs == 0) ∷ []) ++ (length c.args.rest.now == 0) ∷ [] in
    let old = string_bytes c.args.out.now in
    let quiet = (λ i. is_quiet (U s.interner.now) (graph_in U s) (keys_in U s) (marks_in U s) (sym c.deref-2.ensures.value i) n.0
    (sym c.deref.ensures.value i)) ∙ c.in_default.ensures in
    let whole = quiet_candidate U s p.branch.items n.0 p.reported.items (p.limit - length fs) quiet in
    candidate_step U s top p.limit fs p.branch.items p.candidates.now n c.args.rest.now runs p.reported.items p.reported.items [] old old c.requires.candidates
    (ap (λ t. text_at top levels t.value) whole) (ap (λ t. t.reported) whole) (sym (append-nil old))
