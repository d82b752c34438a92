use Rattle.std.proofs.Common.{take}
use Rattle.resolvo.specs.Derivations.{MarksNumbers}
use Rattle.resolvo.proofs.contradiction.mark_numbers.Given as goal

abbrev pub invariant-numbers : goal.invariant-numbers
invariant-numbers l = MarksNumbers l.initial.marks.items l.marks.items (take l.number-index l.numbers)
