use Rattle.std.proofs.Common.{◌≡◌, ◌∙◌, map, false, arith}
use Rattle.std.specs.List.{swap_remove}
use Rattle.resolver_report.specs.Graphs.{first_mentions, links, edge_in, is_entered}
use Rattle.resolver_report.specs.declared.graph.ConflictNode.TheVariants.{Root}
use Rattle.resolver_report.proofs.ShapeLemmas.{first_is_shape, without_is_shape, other_default}
use Rattle.resolver_report.proofs.rule_graph.graph_of.Goals as goal

pub new-requires : goal.new-requires
new-requires g c =
    let nodes : c.in_ok-nodes.nodes.items ≡ first_mentions g.S.PartialEq.eq c.args.rules.now = c.in_ok-nodes.ensures.value ∙
    rw (c.deref.ensures.value, c.in_ok-mentions.ensures.value) in
    let edges : c.in_ok-edges.edges.items ≡ map (edge_in g.S.PartialEq.eq (first_mentions g.S.PartialEq.eq c.args.rules.now))
    (links g.N.PartialEq.eq c.args.rules.now) = c.in_ok-edges.ensures.value ∙
    rw (c.deref-then-is_entered.ensures.value, c.deref-then-is_entered-2.ensures.value, nodes, c.in_ok-links.ensures.value) in
    rw (nodes, edges) (first_is_shape g.S.PartialEq.eq c.requires g.N.PartialEq.eq c.args.rules.now)

pub new-requires-2 : goal.new-requires-2
new-requires-2 g c =
    let old : c.in_ok-nodes.nodes.items ≡ first_mentions g.S.PartialEq.eq c.args.rules.now = c.in_ok-nodes.ensures.value ∙
    rw (c.deref.ensures.value, c.in_ok-mentions.ensures.value) in
    let nodes : c.swap_remove.new.self.items ≡ swap_remove (first_mentions g.S.PartialEq.eq c.args.rules.now) 1 Root = c.swap_remove.ensures.items ∙
    rw old (other_default (first_mentions g.S.PartialEq.eq c.args.rules.now) c.swap_remove.result (omega arith) Root) in
    let edges : c.in_ok-edges-2.edges.items ≡ map (edge_in g.S.PartialEq.eq (swap_remove (first_mentions g.S.PartialEq.eq c.args.rules.now) 1 Root))
    (links g.N.PartialEq.eq c.args.rules.now) = c.in_ok-edges-2.ensures.value ∙
    rw (c.deref-3.ensures.value, c.deref-4.ensures.value, nodes, c.in_ok-links.ensures.value) in
    let not_entered : is_entered g.S.PartialEq.eq (links g.N.PartialEq.eq c.args.rules.now) ≡ false =
    rw (← c.in_ok-links.ensures.value, ← c.deref-2.ensures.value, ← c.is_entered.ensures) c.if-is_entered.false in
    rw (nodes, edges) (without_is_shape g.S.PartialEq.eq c.requires g.N.PartialEq.eq c.args.rules.now not_entered)

pub returns-clause-value : goal.returns-clause-value
returns-clause-value g c =
    let old : c.in_ok-nodes.nodes.items ≡ first_mentions g.S.PartialEq.eq c.args.rules.now = c.in_ok-nodes.ensures.value ∙
    rw (c.deref.ensures.value, c.in_ok-mentions.ensures.value) in
    let nodes : c.swap_remove.new.self.items ≡ swap_remove (first_mentions g.S.PartialEq.eq c.args.rules.now) 1 Root = c.swap_remove.ensures.items ∙
    rw old (other_default (first_mentions g.S.PartialEq.eq c.args.rules.now) c.swap_remove.result (omega arith) Root) in
    let edges : c.in_ok-edges-2.edges.items ≡ map (edge_in g.S.PartialEq.eq (swap_remove (first_mentions g.S.PartialEq.eq c.args.rules.now) 1 Root))
    (links g.N.PartialEq.eq c.args.rules.now) = c.in_ok-edges-2.ensures.value ∙
    rw (c.deref-3.ensures.value, c.deref-4.ensures.value, nodes, c.in_ok-links.ensures.value) in
    let not_entered : is_entered g.S.PartialEq.eq (links g.N.PartialEq.eq c.args.rules.now) ≡ false =
    rw (← c.in_ok-links.ensures.value, ← c.deref-2.ensures.value, ← c.is_entered.ensures) c.if-is_entered.false in
    rw (c.in_ok-new-2.ensures.value, nodes, edges, not_entered)
