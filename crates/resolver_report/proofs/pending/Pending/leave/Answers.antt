use Rattle.std.proofs.Common.{◌≡◌, ◌∙◌, ◌++◌, ◌∷◌, [], ap, append_assoc, length, map, sym}
use Rattle.std.specs.Prelude.{◌==◌}
use Rattle.resolver_report.specs.Indents.{levels_in}
use Rattle.resolver_report.specs.PendingTexts.{frames_view, levels_of}
use Rattle.resolver_report.specs.Outlines.{run_told_view}
use Rattle.resolver_report.proofs.PendingLemmas.{frames_pushed}
use Rattle.resolver_report.proofs.pending.Pending.leave.Goals as goal

pub returns-clause-levels : goal.returns-clause-levels
returns-clause-levels c =
    let frame = c.in-Some.frame in
    let rest = c.pop.new.self.items in
    let levels = levels_of (frames_view rest) in
    let run = length (map run_told_view frame.runs.now) == 0 in
    let candidate = length frame.candidates.now == 0 in
    let shape : levels_in c.args.self.now.indenter ≡ (levels ++ run ∷ []) ++ candidate ∷ [] =
    c.requires ∙ ap (λ fs. levels_of (frames_view fs)) c.in-Some.ensures.items ∙ ap levels_of (frames_pushed rest frame) ∙
    sym (append_assoc levels (run ∷ []) (candidate ∷ [])) in
    c.rise-2.ensures.levels levels run (c.rise.ensures.levels (levels ++ run ∷ []) candidate shape)
