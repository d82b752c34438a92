use Rattle.std.proofs.Common.{arith, refl}
use Rattle.resolver_clause_store.proofs.QueueLemmas.{queued-same}
use Rattle.resolver_clause_store.proofs.queue.DecideQueue.follow.Goals as goal

pub places-preserved : goal.places-preserved
places-preserved c = record {
  queued = λ table requirements it. c.in_ok-follow_place.ensures.queued table requirements (c.places.invariant.queued table requirements it);
  all = c.in_ok-follow_place.ensures.all;
  inside = omega (arith, c.in_ok-follow_place.ensures.kept, c.places-test.true);
}

pub returns-clause-queued : goal.returns-clause-queued
returns-clause-queued c = λ table requirements it. queued-same c.places.self _ c.args.trail.now table requirements refl refl refl refl refl refl
    (c.places.invariant.queued table requirements (c.in_ok-forget.ensures.queued c.args.trail.now table requirements it))
