use Rattle.std.proofs.Common.{◌∙◌, ◌-◌, ap, arith, sym}
use Rattle.resolver_report.specs.EdgePlaces.{lists_in}
use Rattle.resolver_report.specs.Marks.{some_marked}
use Rattle.resolver_report.proofs.EdgePlaceLemmas.{lists-at}
use Rattle.resolver_report.proofs.WorkLemmas.{mark_before}
use Rattle.resolver_report.proofs.implications.has_mark.Goals as goal

pub returns-in-Some : goal.returns-in-Some
returns-in-Some c =
    let found = c.in-Some.ensures.lookup in
    let group = c.in-Some.group.now in
    let last = c.args.left - 1 in
    let at = c.deref.ensures.value ∙ ap (λ v. v.items) found.1 ∙ sym (lists-at c.args.groups.now last group found.3.0) in
    c.some_marked.ensures ∙ ap (some_marked c.args.marks.now) at ∙ sym (mark_before c.args.marks.now (lists_in c.args.groups.now) c.args.left (omega arith))
