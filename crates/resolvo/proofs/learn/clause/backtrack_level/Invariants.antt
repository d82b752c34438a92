use Rattle.resolvo.proofs.LevelLemmas.{IsBacktrackLevelSoFar}
use Rattle.resolvo.proofs.learn.clause.backtrack_level.Given as goal

abbrev pub invariant-literals : goal.invariant-literals
invariant-literals l = IsBacktrackLevelSoFar l.trail l.literals l.asserted l.literal-index l.level
