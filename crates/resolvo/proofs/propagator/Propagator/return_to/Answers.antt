use Rattle.std.proofs.lemmas.Bool.{false≢true}
use Rattle.resolvo.proofs.ReturningLemmas.{lower-cut}
use Rattle.resolvo.proofs.propagator.Propagator.return_to.Goals as goal

pub returns-then-began-clause-propagator : goal.returns-then-began-clause-propagator
returns-then-began-clause-propagator c =
    λ table before count within begins cut it. c.in_ok-cut.ensures.propagator table before
    (lower-cut before c.args.trail.now count cut within (begins c.if-began.true)) it

pub returns-clause-propagator : goal.returns-clause-propagator
returns-clause-propagator c = λ table before count within begins cut it.
    c.in_ok-forget.ensures.propagator table before count within (λ off. absurd (false≢true off)) cut it
