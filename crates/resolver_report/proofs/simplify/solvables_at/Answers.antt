use Rattle.std.proofs.Common.{◌∙◌, rules}
use Rattle.std.proofs.lemmas.Iterator.{YieldsList-from_slice}
use Rattle.std.proofs.lemmas.Iterator.Consumers.{YieldsList-at, YieldsList-from_filter_map}
use Rattle.resolver_report.specs.Shapes.{solvable_at}
use Rattle.resolver_report.proofs.ItemLemmas.{items_of_run}
use Rattle.resolver_report.proofs.simplify.solvables_at.Goals as goal

pub returns-clause-value : goal.returns-clause-value
returns-clause-value g c =
    let run = c.in_ok-collect_vec.ensures.runs in
    run.3 ∙ items_of_run run.0 run.1 run.2
    (YieldsList-from_filter_map _ (solvable_at c.args.graph.now)
    (YieldsList-at c.filter_map-found.ensures.source (YieldsList-from_slice c.args.nodes.now (search rules))) c.filter_map-found.ensures.closure (λ x r q k.
    search rules))
