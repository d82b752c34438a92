use Rattle.std.proofs.Common.{◌∙◌, ◌++◌, ap, sym}
use Rattle.resolver_report.specs.ConflictGraphs.{shape_of}
use Rattle.resolver_report.specs.NodeImplications.{installable_by}
use Rattle.resolver_report.proofs.ImpliedLemmas.{of_range_next}
use Rattle.resolver_report.proofs.marks.all_installable.Goals as goal

pub loop-n-preserved : goal.loop-n-preserved
loop-n-preserved g c =
    let by = installable_by (shape_of c.args.graph.now) in
    c.in_ok-add_installable.ensures.ok ∙ ap (λ is. is ++ by c.loop-n.n) c.loop-n.invariant ∙ sym (of_range_next by c.loop-n.n)
