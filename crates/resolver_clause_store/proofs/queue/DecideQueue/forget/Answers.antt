use Rattle.std.proofs.Common.{◌∙◌, arith}
use Rattle.resolver_clause_store.proofs.queue.DecideQueue.forget.Goals as goal

pub places-preserved : goal.places-preserved
places-preserved c = record {
  queued = λ trail table requirements it. c.in_ok-forget_last.ensures.queued trail table requirements (c.places.invariant.queued trail table requirements it);
  kept = c.in_ok-forget_last.ensures.kept ∙ c.places.invariant.kept;
  some = omega (arith, c.in_ok-forget_last.ensures.fewer, c.in_ok-forget_last.ensures.kept, c.places-test.true);
}
