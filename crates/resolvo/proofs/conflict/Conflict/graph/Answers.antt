use Rattle.std.proofs.Common.{◌≡◌, ◌∙◌, sym, ap, subst}
use Rattle.resolver_report.specs.ConflictGraphs.{shape_of}
use Rattle.resolver_report.specs.Graphs.{graph_of}
use Rattle.resolver_report.specs.ReachedPlaces.{AreNodesReached}
use Rattle.resolver_report.specs.Shapes.{ConflictShape}
use Rattle.resolver_report.specs.TrueEdges.{AreEdgesTrue}
use Rattle.resolvo.specs.Conflicts.{rules_in}
use Rattle.resolvo.proofs.conflict.Conflict.graph.Goals as goal

pub returns-clause-true_edges : goal.returns-clause-true_edges
returns-clause-true_edges g c = λ u root true_rules.
    let is : shape_of c.in_ok-graph.graph ≡ graph_of g.N.PartialEq.eq g.S.PartialEq.eq (rules_in c.args.self.now) = c.in_ok-graph.ensures.value ∙
    ap (graph_of g.N.PartialEq.eq g.S.PartialEq.eq) c.rules.ensures in
    let AreTrue : ConflictShape g.row.S.Denot → Type 0 = λ shape. AreEdgesTrue u root shape.shape in
    subst AreTrue (sym is) (c.graphs_of_true_rules_are_true.ensures u root (rules_in c.args.self.now) true_rules g.N.PartialEq.eq
    g.S.PartialEq.eq g.met.D.Interner.names_are_values g.met.D.Interner.solvables_are_values)

pub returns-clause-reached_nodes : goal.returns-clause-reached_nodes
returns-clause-reached_nodes g c = λ kept.
    let is : shape_of c.in_ok-graph.graph ≡ graph_of g.N.PartialEq.eq g.S.PartialEq.eq (rules_in c.args.self.now) = c.in_ok-graph.ensures.value ∙
    ap (graph_of g.N.PartialEq.eq g.S.PartialEq.eq) c.rules.ensures in
    let AreReached : ConflictShape g.row.S.Denot → Type 0 = λ shape. AreNodesReached shape in
    subst AreReached (sym is) (c.graphs_of_kept_rules_are_reached.ensures (rules_in c.args.self.now) kept g.N.PartialEq.eq g.S.PartialEq.eq
    g.met.D.Interner.solvables_are_values)
