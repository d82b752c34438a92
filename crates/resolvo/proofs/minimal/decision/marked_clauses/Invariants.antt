use Rattle.std.proofs.Common.{take}
use Rattle.resolvo.specs.MarkedClauses.{HoldsMarked}
use Rattle.resolvo.proofs.minimal.decision.marked_clauses.Given as goal

abbrev pub invariant-clauses : goal.invariant-clauses
invariant-clauses l = HoldsMarked l.marks (take l.index l.clauses) l.marked
