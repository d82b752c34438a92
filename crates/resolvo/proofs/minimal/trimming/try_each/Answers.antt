use Rattle.resolvo.proofs.minimal.trimming.try_each.Goals as goal

pub turns-preserved : goal.turns-preserved
turns-preserved g c = record {
  size = c.in_ok-try_without.ensures.size;
  refuted = λ all. c.in_ok-try_without.ensures.refuted (c.turns.invariant.refuted all);
}
