use Rattle.std.proofs.Common.{length, map}
use Rattle.resolver_report.specs.Implications.{implied}
use Rattle.resolver_report.specs.WorkLists.{work_view}
use Rattle.resolver_report.proofs.WorkLemmas.{AreTendedBelow}
use Rattle.resolver_report.proofs.implications.start.Given as goal

abbrev pub invariant-loop-place : goal.invariant-loop-place
invariant-loop-place l = AreTendedBelow (map implied l.implications) (work_view l.marking) l.place (length l.fn.marking.marks.items)
