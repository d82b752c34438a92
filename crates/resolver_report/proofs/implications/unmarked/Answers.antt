use Rattle.std.proofs.Common.{◌∙◌, ap, arith, length, map, rules}
use Rattle.std.proofs.lemmas.List.{take_all}
use Rattle.resolver_report.specs.WorkLists.{work_view}
use Rattle.resolver_report.proofs.WorkLemmas.{unmarked_right}
use Rattle.resolver_report.proofs.implications.unmarked.Goals as goal

pub returns-clause-right : goal.returns-clause-right
returns-clause-right c =
    let is = c.args.implications.now in
    let w = work_view (record { marks = c.in_ok-marks.marks; left = c.loop-implication.left; waiting = c.in_ok-empty_lists.field-0; woken = c.new.result }) in
    unmarked_right is c.args.count w c.requires (c.in_ok-marks.ensures.items_if_clones_equal (λ y h. search (rules, h)))
    (c.loop-implication.invariant ∙ ap (map (λ i. length i.groups.items)) (take_all c.loop-implication.implication-index is (omega arith)))
    c.in_ok-empty_lists.ensures.value.long
