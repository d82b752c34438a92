use Rattle.std.proofs.Common.{◌≡◌, ◌≤◌, length}
use Rattle.resolver_clause_store.specs.Queues.{StaysQueued}
use Rattle.resolver_clause_store.proofs.queue.DecideQueue.forget.Given as goal

abbrev pub invariant-places : goal.invariant-places
invariant-places l = record {
  queued : StaysQueued l.initial.self l.self;
  kept : l.self.kept ≡ l.initial.self.kept;
  some : l.self.kept ≤ length l.self.followed.items;
}

abbrev pub decreases-places : goal.decreases-places
decreases-places l = length l.self.followed.items
