use Rattle.std.proofs.Common.{◌∙◌, rules}
use Rattle.std.proofs.lemmas.Iterator.{YieldsList-from_slice}
use Rattle.std.proofs.lemmas.Iterator.Consumers.{YieldsList-at, YieldsList-from_filter_map}
use Rattle.itertools.specs.List.{dedup}
use Rattle.itertools.proofs.AdaptorLemmas.{YieldsList-from_gives}
use Rattle.resolver_clause_store.specs.contracts.ids.VersionSetIdPartialEq.TheImpl.{eq-value}
use Rattle.resolver_report.specs.Causes.{constraint}
use Rattle.resolver_report.specs.Messages.{constraints}
use Rattle.resolver_report.proofs.ItemLemmas.{items_of_run}
use Rattle.resolver_report.proofs.OnceLemmas.{dedup_once}
use Rattle.resolver_report.proofs.verdict.constraints.Goals as goal

pub returns-clause-value : goal.returns-clause-value
returns-clause-value g c =
    let collected = c.in_ok-collect_vec.ensures.runs in
    let given = items_of_run collected.0 collected.1 collected.2
    (YieldsList-from_gives (dedup eq-value.it) c.dedup.ensures.runs
    (YieldsList-from_filter_map _ (λ e. constraint e.weight)
    (YieldsList-at c.filter_map-named.ensures.source (YieldsList-from_slice c.args.edges.now (search rules))) c.filter_map-named.ensures.closure (λ x r q k.
    search rules))) in
    collected.3 ∙ given ∙ dedup_once eq-value.it (λ v w. search rules) (constraints c.args.edges.now)
