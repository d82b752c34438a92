use Rattle.resolvo.proofs.VisitLemmas.{next-placed, next-unsatisfied}
use Rattle.resolvo.proofs.propagator.Propagator.next_watcher.Goals as goal

pub returns-then-falsified-clause-visiting : goal.returns-then-falsified-clause-visiting
returns-then-falsified-clause-visiting c = next-unsatisfied _ _ _ _ _ c.if-falsified.true c.next_unsatisfied.ensures.value

pub returns-clause-visiting : goal.returns-clause-visiting
returns-clause-visiting c = next-placed _ _ _ _ _ c.requires.from c.placed_at.ensures.value
