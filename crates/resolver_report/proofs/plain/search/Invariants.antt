use Rattle.std.proofs.Common.{suc}
use Rattle.resolver_report.specs.Searching.{IsSearchStep, search_work, steps_left, untried_view}
use Rattle.resolver_report.proofs.plain.search.Given as goal

-- the invariant after a step
abbrev pub invariant-loop-step : goal.invariant-loop-step
invariant-loop-step g l =
    let untried = untried_view l.untried.items in
    IsSearchStep g.S.PartialEq.eq l.rules l.set.items untried (suc (search_work g.S.PartialEq.eq l.rules l.set.items untried)) l.step

abbrev pub decreases-loop-step : goal.decreases-loop-step
decreases-loop-step g l = steps_left l.step (search_work g.S.PartialEq.eq l.rules l.set.items (untried_view l.untried.items))
