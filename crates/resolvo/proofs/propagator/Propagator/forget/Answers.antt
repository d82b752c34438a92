use Rattle.resolvo.proofs.AttachingLemmas.{propagator-forgot}
use Rattle.resolvo.proofs.propagator.Propagator.forget.Goals as goal

pub returns-clause-propagator : goal.returns-clause-propagator
returns-clause-propagator c = λ table before count within begins cut it.
    let recalled = rw c.len.ensures at c.in_ok-recall.ensures.recalled in
    rw c.recall.ensures.watches (propagator-forgot table before c.args.trail.now count c.args.self.now _ _ recalled within cut it)
