use Rattle.resolvo.proofs.LevelLemmas.{LowestSo}
use Rattle.resolvo.proofs.learn.resolve.lowest_place.Given as goal

abbrev pub invariant-literals : goal.invariant-literals
invariant-literals l = LowestSo l.trail l.clause l.level l.start l.literal-index l.lowest
