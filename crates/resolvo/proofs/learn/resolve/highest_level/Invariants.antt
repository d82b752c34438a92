use Rattle.resolvo.proofs.LevelLemmas.{HighestSo}
use Rattle.resolvo.proofs.learn.resolve.highest_level.Given as goal

abbrev pub invariant-literals : goal.invariant-literals
invariant-literals l = HighestSo l.trail l.clause l.literal-index l.level
