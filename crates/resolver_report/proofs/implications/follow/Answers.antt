use Rattle.std.proofs.Common.{◌∙◌, ap, length, map, subst, ℕ}
use Rattle.resolver_report.specs.Implications.{HasLeastMarks, implied}
use Rattle.resolver_report.specs.WorkLists.{AreTended, work_view}
use Rattle.resolver_report.proofs.WorkLemmas.{ends_least, follow_next, same_right}
use Rattle.resolver_report.proofs.implications.follow.Goals as goal

pub loop-place-smaller : goal.loop-place-smaller
loop-place-smaller c =
    let next = follow_next (map implied c.args.implications.now) (work_view c.loop-place.marking) (work_view c.next_ready.new.marking)
    (work_view c.advance.new.marking) c.in-Some.place c.in-Some.ensures.same c.in-Some.ensures.found.0 c.in-Some.ensures.found.1 c.in_ok-advance.ensures.ok
    c.loop-place.invariant.right c.loop-place.invariant.tended in
    next.smaller

pub loop-place-preserved : goal.loop-place-preserved
loop-place-preserved c =
    let next = follow_next (map implied c.args.implications.now) (work_view c.loop-place.marking) (work_view c.next_ready.new.marking)
    (work_view c.advance.new.marking) c.in-Some.place c.in-Some.ensures.same c.in-Some.ensures.found.0 c.in-Some.ensures.found.1 c.in_ok-advance.ensures.ok
    c.loop-place.invariant.right c.loop-place.invariant.tended in
    record { right = next.right; tended = next.tended; long = next.long ∙ c.loop-place.invariant.long }

pub returns-clause-least : goal.returns-clause-least
returns-clause-least c =
    let is = map implied c.args.implications.now in
    let w = work_view c.next_ready.new.marking in
    let right = same_right is (work_view c.loop-place.marking) w c.in_default.ensures.same c.loop-place.invariant.right in
    let tended : AreTended is w = λ d lt. c.in_default.ensures.found.1 d (c.loop-place.invariant.tended d lt) in
    let Least : ℕ → Type 0 = λ count. HasLeastMarks count is w.marks in
    subst Least (ap length c.in_default.ensures.same.marks ∙ c.loop-place.invariant.long) (ends_least is w right tended c.in_default.ensures.found.0)
