use Rattle.std.proofs.Common.{refl}
use Rattle.std.proofs.Common.{◌≡◌, ◌∙◌, map, sym, subst}
use Rattle.resolver_report.specs.ConflictGraphs.{shape_of}
use Rattle.resolver_report.specs.declared.graph.ConflictGraph.{ConflictGraph}
use Rattle.resolver_report.specs.Merging.{group_in, keys}
use Rattle.resolver_report.specs.Shapes.{places}
use Rattle.resolver_report.specs.Simplified.{IsSimplified}
use Rattle.resolver_report.specs.Outlines.{groups_in, node_told}
use Rattle.resolver_report.proofs.message.outline_of.Goals as goal

pub returns-clause-outline : goal.returns-clause-outline
returns-clause-outline g c =
    let f = c.in_ok-findings.findings in
    let u = g.I.Interner.universe c.args.interner.now in
    let same_groups : groups_in f ≡ group_in (keys u f.graph.now.graph) = λ i n. c.in_ok-findings.ensures.groups n i in
    let P = λ (graph : ConflictGraph g.row.I-SolvableId.Denot). IsSimplified g.I.SolvableId.PartialEq.eq u graph.graph c.in_ok-groups.groups in
    record {
      found_groups = c.in_ok-findings.ensures.groups;
      found_marks = c.in_ok-findings.ensures.marks;
      groups = subst P (sym c.in_ok-findings.ensures.graph) c.in_ok-groups.ensures.value;
      nodes = c.in_ok-nodes.ensures.value ∙
          (λ i. map (node_told (shape_of f.graph.now) (same_groups i) (c.in_ok-findings.ensures.marks i)) (places f.graph.now.graph));
    }

pub returns-clause-graph : goal.returns-clause-graph
returns-clause-graph g c = c.in_ok-findings.ensures.graph

pub returns-clause-interner : goal.returns-clause-interner
returns-clause-interner g c = refl

pub returns-clause-memory : goal.returns-clause-memory
returns-clause-memory g c = tt
