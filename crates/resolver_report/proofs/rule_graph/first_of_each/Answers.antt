use Rattle.std.proofs.Common.{◌∙◌, ap, map, rules}
use Rattle.std.specs.Vec.Iter.{into_iter_items}
use Rattle.std.proofs.lemmas.Iterator.{YieldsList-from_slice}
use Rattle.itertools.proofs.AdaptorLemmas.{items_from_whole_run}
use Rattle.resolver_clause_store.specs.Lists.{without_repeats}
use Rattle.resolver_report.specs.Same.{same_node}
use Rattle.resolver_report.proofs.GraphLemmas.{clones_equal, firsts_without_repeats, same_node_is_identity}
use Rattle.resolver_report.proofs.ItemLemmas.{items_of_copies}
use Rattle.resolver_report.proofs.rule_graph.first_of_each.Goals as goal

pub unique-requires-clause-clones : goal.unique-requires-clause-clones
unique-requires-clause-clones g c = clones_equal (same_node g.S.PartialEq.eq) (same_node_is_identity g.S.PartialEq.eq c.requires) (λ a b. search rules)

pub returns-clause-value : goal.returns-clause-value
returns-clause-value g c =
    let first = c.in_ok-found.ensures.items in
    let collected = c.in_ok-collect_vec.ensures.runs in
    let copied = items_of_copies collected.0 collected.1 collected.2 in
    let given = items_from_whole_run (YieldsList-from_slice {s = c.iter.result} c.args.nodes.now (search rules)) first.0 first.1 first.2 in
    let once = firsts_without_repeats (same_node g.S.PartialEq.eq) (same_node_is_identity g.S.PartialEq.eq c.requires) (λ a b. search rules) first.0.items in
    collected.3 ∙ copied ∙ ap (λ it. map (λ r. r.now) (into_iter_items it)) c.copied.ensures.source ∙ ap (map (λ r. r.now)) first.3 ∙ once ∙
    ap (without_repeats (same_node g.S.PartialEq.eq)) given
