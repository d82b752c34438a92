use Rattle.std.proofs.Common.{◌∙◌, map, sym}
use Rattle.resolver_report.specs.Implications.{implied}
use Rattle.resolver_report.specs.WorkLists.{work_view}
use Rattle.resolver_report.proofs.WorkLemmas.{taken_others, taken_ready, taken_stale}
use Rattle.resolver_report.proofs.implications.next_ready.Goals as goal

pub returns-then-is_ready-clause-found : goal.returns-then-is_ready-clause-found
returns-then-is_ready-clause-found c =
    let is = map implied c.args.implications.now in
    let w = work_view c.loop-woken.marking in
    let ws = c.pop.new.self.items in
    let x = c.in-Some.woken in
    let are = c.in-Some.ensures.items in (
      taken_ready is w ws x are (sym c.is_ready.ensures ∙ c.if-is_ready.true),
      λ d apart h. taken_others is w ws x are d apart (c.loop-woken.invariant.1 d h),
    )

pub loop-woken-preserved : goal.loop-woken-preserved
loop-woken-preserved c =
    let is = map implied c.args.implications.now in
    let w = work_view c.loop-woken.marking in
    let ws = c.pop.new.self.items in
    let x = c.in-Some.woken in
    let are = c.in-Some.ensures.items in
    let same = c.loop-woken.invariant.0 in (
      record { marks = same.marks; left = same.left; waiting = same.waiting },
      λ d h. taken_stale is w ws x are (sym c.is_ready.ensures ∙ c.if-is_ready.false) d (c.loop-woken.invariant.1 d h),
    )
