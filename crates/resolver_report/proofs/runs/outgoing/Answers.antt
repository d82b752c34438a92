use Rattle.std.proofs.Common.{◌∙◌}
use Rattle.std.specs.Iterator.{YieldsFirstRef}
use Rattle.std.proofs.lemmas.Iterator.Consumers.{YieldsList-at, YieldsList-from_copied, YieldsList-from_first}
use Rattle.resolver_report.specs.Edges.{outgoing_left}
use Rattle.resolver_report.proofs.ItemLemmas.{items_of_run}
use Rattle.resolver_report.proofs.runs.outgoing.Goals as goal

pub returns-clause-value : goal.returns-clause-value
returns-clause-value g c =
    let run = c.in_ok-collect_vec.ensures.runs in
    run.3 ∙ items_of_run run.0 run.1 run.2
    (YieldsList-from_copied {steps = YieldsFirstRef outgoing_left}
    (YieldsList-at c.copied.ensures.source (YieldsList-from_first (λ e. e.now) outgoing_left _ c.outgoing.ensures)))
