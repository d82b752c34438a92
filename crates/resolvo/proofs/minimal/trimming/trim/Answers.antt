use Rattle.resolvo.proofs.minimal.trimming.trim.Goals as goal

pub returns-clause-refuted : goal.returns-clause-refuted
returns-clause-refuted g c = λ all. c.in_ok-try_each.ensures.refuted (c.in_ok-marks.ensures.refuted all)
