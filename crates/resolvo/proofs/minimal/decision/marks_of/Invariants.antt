use Rattle.std.proofs.Common.{take}
use Rattle.resolvo.specs.MarkedClauses.{AreMarksOf}
use Rattle.resolvo.proofs.minimal.decision.marks_of.Given as goal

abbrev pub invariant-numbers : goal.invariant-numbers
invariant-numbers l = AreMarksOf l.places (take l.index l.numbers) l.count l.marks.items
