use Rattle.std.proofs.Common.{rules, Some, None}
use Rattle.resolver_report.proofs.PlaceLemmas.{place_found}
use Rattle.resolver_report.proofs.rule_graph.place.Goals as goal

pub returns-in-Some : goal.returns-in-Some
returns-in-Some g c = place_found g.S.PartialEq.eq c.args.nodes.now c.args.places.now c.args.wanted.now _
    (Some c.in-Some.place.now) c.in-Some.ensures.value (λ y. search rules) c.requires

pub returns-in-None : goal.returns-in-None
returns-in-None g c = place_found g.S.PartialEq.eq c.args.nodes.now c.args.places.now c.args.wanted.now _ None c.in-None.ensures.value (λ y.
    search rules) c.requires
