use Rattle.std.proofs.Common.{length, map, sum}
use Rattle.resolver_report.specs.Implications.{implied}
use Rattle.resolver_report.specs.WorkLists.{work_view}
use Rattle.resolver_report.proofs.WorkLemmas.{AreTendedBelow}
use Rattle.resolver_report.proofs.implications.follow.Given as goal

abbrev pub invariant-loop-place : goal.invariant-loop-place
invariant-loop-place l = AreTendedBelow (map implied l.implications) (work_view l.marking) (length (map implied l.implications))
    (length l.fn.marking.marks.items)

abbrev pub decreases-loop-place : goal.decreases-loop-place
decreases-loop-place l = sum l.marking.left.items
