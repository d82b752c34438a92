use Rattle.std.proofs.Common.{◌∙◌, ◌<◌, All, ap, length, map, subst, sym, ℕ}
use Rattle.resolver_report.specs.ConflictGraphs.{shape_of}
use Rattle.resolver_report.specs.Implications.{implied}
use Rattle.resolver_report.specs.NodeImplications.{installable_by}
use Rattle.resolver_report.proofs.ImpliedLemmas.{installable_is, installable_own, nodes_below}
use Rattle.resolver_report.proofs.marks.installable.Goals as goal

pub least_marks-requires : goal.least_marks-requires
least_marks-requires g c =
    let shape = shape_of c.args.graph.now in
    let same = ap (map implied) c.deref.ensures.value ∙ c.in_ok-implications.ensures.value in
    let Below : ℕ → Type 0 = λ count. All (λ i. i.node.0 < count) c.deref.result.now in
    subst Below (sym (ap length c.nodes.ensures.value)) (nodes_below (installable_by shape) (installable_own shape) shape c.deref.result.now same)

pub returns-clause-value : goal.returns-clause-value
returns-clause-value g c =
    let shape = shape_of c.args.graph.now in
    let same = ap (map implied) c.deref.ensures.value ∙ c.in_ok-implications.ensures.value in
    installable_is shape c.in_ok-marks.marks.items (rw (ap length c.nodes.ensures.value, same) at c.in_ok-marks.ensures.value)
