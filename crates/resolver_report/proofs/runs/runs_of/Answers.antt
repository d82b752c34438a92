use Rattle.std.proofs.Common.{arith, ap, map, sym, ◌∙◌, refl}
use Rattle.resolver_report.specs.EdgeRuns.{run_view}
use Rattle.resolver_report.proofs.RunLemmas.{runs_of_next}
use Rattle.resolver_report.proofs.runs.runs_of.Goals.{in-Requires+in_ok-add_edge, in_default}
use Rattle.resolver_report.proofs.runs.runs_of.Goals as goal

pub loop-edge-preserved : goal.loop-edge-preserved
loop-edge-preserved g c =
    let next = runs_of_next c.args.edges.now c.loop-edge.edge-index c.edge-item.result (omega arith) c.edge-item.is in
    elim c.match-edge.branch [
      | in-Requires+in_ok-add_edge w ↦ ap (λ v. map run_view v.items) w.runs-is ∙ w.in_ok-add_edge.ensures.ok ∙
          rw c.loop-edge.invariant (sym (next ∙ rw w.in-Requires.is refl))
      | in_default w ↦ ap (λ v. map run_view v.items) w.runs-is ∙ c.loop-edge.invariant ∙ sym (next ∙ rw w.in_default.is refl)
    ]
