use Rattle.std.proofs.Common.{take}
use Rattle.resolvo.proofs.ListedLemmas.{NegatesListed}
use Rattle.resolvo.proofs.learn.clause.literals_of.Given as goal

abbrev pub invariant-variables : goal.invariant-variables
invariant-variables l = NegatesListed l.trail l.marks l.literals.items (take l.variable-index l.marked)
