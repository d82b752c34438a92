use Rattle.std.proofs.Common.{◌∙◌, rules}
use Rattle.std.proofs.lemmas.Iterator.{YieldsList-from_slice}
use Rattle.std.proofs.lemmas.Iterator.Consumers.{YieldsList-at, YieldsList-from_copied, YieldsList-from_filter}
use Rattle.resolver_report.specs.Picks.{has_mark}
use Rattle.resolver_report.proofs.ItemLemmas.{items_of_run}
use Rattle.resolver_report.proofs.message.edges_by_mark.Goals as goal

pub returns-clause-value : goal.returns-clause-value
returns-clause-value g c =
    let run = c.in_ok-collect_vec.ensures.runs in
    run.3 ∙ items_of_run run.0 run.1 run.2
    (YieldsList-from_filter _ (has_mark c.args.marks.now c.args.wanted)
    (YieldsList-at c.filter-found.ensures.source
    (YieldsList-from_copied (YieldsList-at c.copied.ensures.source (YieldsList-from_slice c.args.edges.now (search rules)))))
    c.filter-found.ensures.closure (λ x b q k. search rules))
