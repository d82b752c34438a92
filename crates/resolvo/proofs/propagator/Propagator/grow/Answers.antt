use Rattle.resolvo.proofs.AttachingLemmas.{propagator-grown}
use Rattle.resolvo.proofs.propagator.Propagator.grow.Goals as goal

pub returns-clause-propagator : goal.returns-clause-propagator
returns-clause-propagator c = λ table old new grown it.
    propagator-grown table old new _ c.args.self.now _ c.in_ok-grow.ensures.size c.grow.ensures.lists c.grow.ensures.pairs grown it
