use Rattle.std.proofs.Common.{length}
use Rattle.resolver_clause_store.specs.Queues.{IsFollowed, IsQueued}
use Rattle.resolver_clause_store.proofs.queue.DecideQueue.next.Given as goal

abbrev pub invariant-active : goal.invariant-active
invariant-active l = record {
  queued : IsQueued l.self l.trail l.table l.requirements;
  followed : IsFollowed l.self l.trail;
}

abbrev pub decreases-active : goal.decreases-active
decreases-active l = length l.self.active.items
