use Rattle.std.proofs.Common.{◌≡◌, ◌∙◌, ◌++◌, true, false, filter}
use Rattle.resolver_report.specs.ConflictGraphs.{shape_of}
use Rattle.resolver_report.specs.Marks.{installable, missing}
use Rattle.resolver_report.specs.Merging.{keys}
use Rattle.resolver_report.specs.Messages.{conflict_part, missing_part}
use Rattle.resolver_report.specs.Picks.{has_mark}
use Rattle.resolver_report.specs.Shapes.{outgoing}
use Rattle.resolver_report.proofs.message.parts_of.Goals as goal

pub returns-clause-message : goal.returns-clause-message
returns-clause-message g c =
    let U = g.I.Interner.universe in
    let shape = shape_of c.args.graph.now in
    let out = outgoing shape.shape.edges shape.root in
    let marks : c.in_ok-missing.missing.items ≡ missing shape = c.in_ok-missing.ensures.value in
    let edges : c.in_ok-root_edges.root_edges.items ≡ out = c.in_ok-root_edges.ensures.value in
    let lost : c.in_ok-lost.lost.items ≡ filter (has_mark (missing shape) true) out =
    c.in_ok-lost.ensures.value ∙
    (λ i. filter (has_mark ((c.deref-2.ensures.value ∙ marks) i) true) ((c.deref.ensures.value ∙ edges) i)) in
    let left : c.in_ok-left.left.items ≡ filter (has_mark (missing shape) false) out =
    c.in_ok-left.ensures.value ∙
    (λ i. filter (has_mark ((c.deref-4.ensures.value ∙ marks) i) false) ((c.deref-3.ensures.value ∙ edges) i)) in
    let it = c.in_ok-outline.ensures.interner in
    let graph = c.in_ok-outline.ensures.graph in
    λ i. missing_part (U (it i)) (shape_of (graph i)) (keys (U (it i)) (graph i).graph) (installable (shape_of (graph i))) (lost i) ++
    conflict_part (U (it i)) (shape_of (graph i)) (keys (U (it i)) (graph i).graph) (installable (shape_of (graph i))) (edges i) (left i)

pub returns-clause-outline : goal.returns-clause-outline
returns-clause-outline g c = c.in_ok-outline.ensures.outline

pub returns-clause-memory : goal.returns-clause-memory
returns-clause-memory g c = tt
