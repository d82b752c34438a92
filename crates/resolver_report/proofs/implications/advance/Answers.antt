use Rattle.std.proofs.Common.{◌∙◌, ◌-◌, ap, arith, sym}
use Rattle.std.proofs.lemmas.List.{get_or_default, length-map}
use Rattle.resolver_report.specs.EdgePlaces.{lists_in}
use Rattle.resolver_report.specs.Implications.{implied}
use Rattle.resolver_report.specs.WorkLists.{up_to_unmarked, work_view}
use Rattle.resolver_report.proofs.EdgePlaceLemmas.{lists-at}
use Rattle.resolver_report.proofs.WorkLemmas.{advanced_waits, left_below}
use Rattle.resolver_report.proofs.implications.advance.Goals as goal

pub index-requires-2 : goal.index-requires-2
index-requires-2 c =
    let is = c.args.implications.now in
    let i = c.index-implications-place.result in
    let w = work_view c.args.marking.now in
    let left = c.args.marking.now.left.items in
    let last = c.index.ensures ∙ get_or_default left c.args.place c.index.result.now 0
    (omega (arith, c.requires.within, c.requires.right.long, length-map is implied)) in
    let reached = c.up_to_unmarked-left.ensures ∙ (λ j. up_to_unmarked (c.deref.ensures.value j) (lists_in (c.deref-2.ensures.value j)) (last j)) in
    omega (arith, left_below is i w c.args.place c.up_to_unmarked-left.result c.requires.within c.index-implications-place.is reached c.requires.right)

pub returns-clause-ok : goal.returns-clause-ok
returns-clause-ok c =
    let is = c.args.implications.now in
    let i = c.index-implications-place.result in
    let w = work_view c.args.marking.now in
    let left = c.args.marking.now.left.items in
    let list = c.index-2.result.now in
    let last = c.index.ensures ∙ get_or_default left c.args.place c.index.result.now 0
    (omega (arith, c.requires.within, c.requires.right.long, length-map is implied)) in
    let reached = c.up_to_unmarked-left.ensures ∙ (λ j. up_to_unmarked (c.deref.ensures.value j) (lists_in (c.deref-2.ensures.value j)) (last j)) in
    let below = left_below is i w c.args.place c.up_to_unmarked-left.result c.requires.within c.index-implications-place.is reached c.requires.right in
    let group = c.deref-3.ensures.value ∙ ap (λ v. v.items) c.index-2.ensures ∙
    sym (lists-at i.groups.items (c.up_to_unmarked-left.result - 1) list (omega (arith, below, c.if-left-eq0.false))) in
    advanced_waits is i w c.args.place c.up_to_unmarked-left.result c.requires.within c.index-implications-place.is reached
    (lists_in c.wait_at_each.new.table.items) c.deref-3.result.now (omega (arith, c.if-left-eq0.false)) group c.in_ok-wait_at_each.ensures.ok
