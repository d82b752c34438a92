use Rattle.std.proofs.Common.{rules}
use Rattle.resolver_report.proofs.PlaceLemmas.{places_all, places_next, places_none}
use Rattle.resolver_report.proofs.rule_graph.places_of.Goals as goal

pub loop-rest-init : goal.loop-rest-init
loop-rest-init g c = places_none g.S.PartialEq.eq c.args.nodes.now c.new-places.result c.new-places.ensures.empty

pub loop-rest-preserved : goal.loop-rest-preserved
loop-rest-preserved g c =
    places_next g.S.PartialEq.eq c.args.nodes.now c.loop-rest.rest.now c.node-item.result _ _ c.loop-rest.places c.insert.new.self (λ n.
    c.in_ok-insert.ensures.updates.0 n) (λ x y. search rules) c.in-len1-up.len_at_least c.node-item.is (search rules) c.loop-rest.invariant

pub returns-clause-value : goal.returns-clause-value
returns-clause-value g c = places_all g.S.PartialEq.eq c.args.nodes.now c.loop-rest.rest.now c.loop-rest.places c.in_default.len_below c.loop-rest.invariant
