use Rattle.std.proofs.Common.{◌<◌, ◌∙◌, sym, ap, arith, length}
use Rattle.std.specs.Option.{is_some}
use Rattle.resolver_report.specs.Merging.{group_in}
use Rattle.resolver_report.specs.Outlines.{node_told}
use Rattle.resolver_report.specs.Tellings.{graph_in, keys_in, marks_in}
use Rattle.resolver_report.proofs.CandidateLemmas.{quiet_group, loud}
use Rattle.resolver_report.proofs.OutlineLemmas.{solvable_below, outline_at, outline_long}
use Rattle.resolver_report.proofs.tree.told_node.Goals as goal

pub index-node-requires : goal.index-node-requires
index-node-requires g c =
    let U = g.I.Interner.universe in
    let told = node_told (graph_in U c.args.outline.now) (group_in (keys_in U c.args.outline.now)) (marks_in U c.args.outline.now) in
    let some = ap is_some (sym c.solvable_at.ensures ∙ c.in-Some.is) in
    omega (
      arith,
      solvable_below c.args.outline.now.findings.graph.now.graph c.args.n.0 some,
      outline_long c.args.outline.now.findings.graph.now.graph told c.args.outline.now.nodes.items c.requires.nodes,
    )

pub returns-then-is_reported : goal.returns-then-is_reported
returns-then-is_reported g c =
    let U = g.I.Interner.universe in
    let told = node_told (graph_in U c.args.outline.now) (group_in (keys_in U c.args.outline.now)) (marks_in U c.args.outline.now) in
    let some = ap is_some (sym c.solvable_at.ensures ∙ c.in-Some.is) in
    let below : c.args.n.0 < length c.args.outline.now.nodes.items =
    omega (
      arith,
      solvable_below c.args.outline.now.findings.graph.now.graph c.args.n.0 some,
      outline_long c.args.outline.now.findings.graph.now.graph told c.args.outline.now.nodes.items c.requires.nodes,
    ) in
    let view = outline_at c.args.outline.now.findings.graph.now.graph told c.args.outline.now.nodes.items c.args.n.0 c.index-node.result.now
    c.requires.nodes below
    c.index-node.ensures in
    quiet_group U c.args.outline.now c.args.branch.now c.args.n.0 c.args.reported.now c.index-node.result.now.group (ap (λ t. t.group) view)
    (sym c.is_reported.ensures ∙ c.if-is_reported.true)

pub returns : goal.returns
returns g c =
    let U = g.I.Interner.universe in
    let told = node_told (graph_in U c.args.outline.now) (group_in (keys_in U c.args.outline.now)) (marks_in U c.args.outline.now) in
    let some = ap is_some (sym c.solvable_at.ensures ∙ c.in-Some.is) in
    let below : c.args.n.0 < length c.args.outline.now.nodes.items =
    omega (
      arith,
      solvable_below c.args.outline.now.findings.graph.now.graph c.args.n.0 some,
      outline_long c.args.outline.now.findings.graph.now.graph told c.args.outline.now.nodes.items c.requires.nodes,
    ) in
    let view = outline_at c.args.outline.now.findings.graph.now.graph told c.args.outline.now.nodes.items c.args.n.0 c.index-node.result.now
    c.requires.nodes below
    c.index-node.ensures in
    record {
      loud = loud U c.args.outline.now c.args.branch.now c.args.n.0 c.args.reported.now c.index-node.result.now.group (ap (λ t. t.group) view) some
          (sym c.is_reported.ensures ∙ c.if-is_reported.false) (sym c.is_marked.ensures ∙ c.if-is_marked.false);
      solvable = some;
      view = view;
    }
