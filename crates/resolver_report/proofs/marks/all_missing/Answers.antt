use Rattle.std.proofs.Common.{◌∙◌, ◌++◌, ap, sym}
use Rattle.resolver_report.specs.ConflictGraphs.{shape_of}
use Rattle.resolver_report.specs.NodeImplications.{missing_by}
use Rattle.resolver_report.proofs.ImpliedLemmas.{of_range_next}
use Rattle.resolver_report.proofs.marks.all_missing.Goals as goal

pub loop-n-preserved : goal.loop-n-preserved
loop-n-preserved g c =
    let by = missing_by (shape_of c.args.graph.now) in
    c.in_ok-add_missing.ensures.ok ∙ ap (λ is. is ++ by c.loop-n.n) c.loop-n.invariant ∙ sym (of_range_next by c.loop-n.n)
