use Rattle.std.proofs.Common.{◌≡◌, ◌∙◌, rules}
use Rattle.std.proofs.lemmas.Iterator.{YieldsList-from_map}
use Rattle.std.proofs.lemmas.Iterator.Consumers.{YieldsList-at, YieldsList-from_first}
use Rattle.resolver_report.specs.Edges.{incoming_left}
use Rattle.resolver_report.specs.Merging.{side_in, sides_in}
use Rattle.resolver_report.specs.contracts.graph.SideOrd.TheImpl.{cmp-value}
use Rattle.resolver_report.proofs.ItemLemmas.{items_of_run, items_of_vec, sides_in_order}
use Rattle.resolver_report.proofs.keys.sides_in.Goals as goal

pub returns-clause-value : goal.returns-clause-value
returns-clause-value g c =
    let sorted = c.in_ok-sorted.ensures.sorted in
    let collected = c.in_ok-collect_vec.ensures.runs in
    let given : sorted.0.items ≡ sides_in c.args.graph.now c.args.n.0 =
    items_of_run sorted.0 sorted.1 sorted.2
    (YieldsList-from_map _ side_in
    (YieldsList-at c.map-sides.ensures.source
    (YieldsList-from_first (λ e. e.now) incoming_left _ c.incoming.ensures)) c.map-sides.ensures.closure (λ x r q k. search rules)) in
    sides_in_order cmp-value.it _ _ _ _ given (collected.3 ∙ items_of_vec collected.0 collected.1 collected.2) sorted.3.0 sorted.3.1
