use Rattle.std.proofs.Common.{◌∙◌, rules}
use Rattle.std.proofs.lemmas.Iterator.{YieldsList-from_map, YieldsList-from_slice}
use Rattle.std.proofs.lemmas.Iterator.Consumers.{YieldsList-at}
use Rattle.resolver_report.specs.Graphs.{edge_in}
use Rattle.resolver_report.proofs.ItemLemmas.{items_of_run}
use Rattle.resolver_report.proofs.rule_graph.edges_of.Goals as goal

pub returns-clause-value : goal.returns-clause-value
returns-clause-value g c =
    let run = c.in_ok-collect_vec.ensures.runs in
    run.3 ∙ items_of_run run.0 run.1 run.2
    (YieldsList-from_map _ (edge_in g.S.PartialEq.eq c.args.nodes.now)
    (YieldsList-at c.map-edges.ensures.source (YieldsList-from_slice c.args.links.now (search rules))) c.map-edges.ensures.closure (λ x r q k.
    search rules))
