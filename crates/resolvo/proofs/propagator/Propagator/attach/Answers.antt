use Rattle.std.proofs.Common.{refl}
use Rattle.resolvo.proofs.AttachingLemmas.{attached-added}
use Rattle.resolvo.proofs.WatchedLemmas.{owns-push}
use Rattle.resolvo.proofs.propagator.Propagator.attach.Goals as goal

pub returns-clause-propagator : goal.returns-clause-propagator
returns-clause-propagator c = λ table it.
    attached-added table c.args.literals.now c.args.trail.now c.args.self.now _ _ c.pair_of.result _ c.in_ok-add.ensures.pairs c.in_ok-add.ensures.size
    (c.in_ok-add.ensures.fit _) refl (rw (c.in_ok-number.ensures, c.len.ensures) at c.in_ok-push.ensures.added) c.pair_of.ensures it

pub returns-clause-own : goal.returns-clause-own
returns-clause-own c = owns-push c.args.literals.now _ _ c.pair_of.result c.in_ok-add.ensures.pairs c.pair_of.ensures

pub returns-clause-kept : goal.returns-clause-kept
returns-clause-kept c = c.add.ensures.kept
