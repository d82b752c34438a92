use Rattle.std.proofs.Common.{take}
use Rattle.resolvo.proofs.ListedLemmas.{Unmarks}
use Rattle.resolvo.proofs.learn.resolve.unmark_all.Given as goal

abbrev pub invariant-variables : goal.invariant-variables
invariant-variables l = Unmarks l.initial.marks.items l.marks.items (take l.variable-index l.marked)
