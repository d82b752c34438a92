use Rattle.std.proofs.Common.{◌≡◌, min}
use Rattle.resolver_clause_store.specs.TrailView.{length_of}
use Rattle.resolvo.proofs.AttachingLemmas.{propagator-cut}
use Rattle.resolvo.proofs.propagator.Propagator.cut.Goals as goal

pub returns-clause-propagator : goal.returns-clause-propagator
returns-clause-propagator c = λ table before lower it.
    let is : c.min-self.result ≡ min c.args.self.now.head (length_of c.args.trail.now) =
    rw (c.in_ok-recall.ensures.head, c.len-2.ensures) at c.min-self.ensures in
    let recalled = rw c.len.ensures at c.in_ok-recall.ensures.recalled in
    rw c.recall.ensures.watches (propagator-cut table before c.args.trail.now c.args.self.now _ _ _ recalled is lower it)
