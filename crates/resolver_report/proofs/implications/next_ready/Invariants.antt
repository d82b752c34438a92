use Rattle.std.proofs.Common.{length, map}
use Rattle.resolver_report.specs.Implications.{implied}
use Rattle.resolver_report.specs.WorkLists.{IsSameWork, KeepsTended, work_view}
use Rattle.resolver_report.proofs.implications.next_ready.Given as goal

abbrev pub invariant-loop-woken : goal.invariant-loop-woken
invariant-loop-woken l = IsSameWork (work_view l.fn.marking) (work_view l.marking) ×
    KeepsTended (map implied l.implications) (work_view l.fn.marking) (work_view l.marking)

abbrev pub decreases-loop-woken : goal.decreases-loop-woken
decreases-loop-woken l = length l.marking.woken.items
