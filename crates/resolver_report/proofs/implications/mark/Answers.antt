use Rattle.std.proofs.Common.{◌∙◌, ◌++◌, ap, set, sym, true}
use Rattle.resolver_report.specs.EdgePlaces.{lists_in}
use Rattle.resolver_report.proofs.EdgePlaceLemmas.{lists-at, lists-set}
use Rattle.resolver_report.proofs.implications.mark.Goals as goal

pub returns-clause-ok : goal.returns-clause-ok
returns-clause-ok c =
    let table = c.args.marking.now.waiting.items in
    let n = c.args.n.0 in
    let list = c.index_mut-2.result.now in
    let waiting = lists-set table n c.append.new.other ∙ ap (set (lists_in table) n) c.in_ok-append.ensures.other_items in
    let woken = c.in_ok-append.ensures.items ∙
    ap (λ ws. c.args.marking.now.woken.items ++ ws) (ap (λ v. v.items) c.index_mut-2.ensures.value ∙ sym (lists-at table n list c.requires.waiting)) in
    λ i. record { marks = set c.args.marking.now.marks.items n true; left = c.args.marking.now.left.items; waiting = waiting i; woken = woken i }
