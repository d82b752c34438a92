use Rattle.std.proofs.Common.{◌≡◌, ◌≤◌, ◌-◌, List, length}
use Rattle.resolver_clause_store.specs.Literals.{Literal}
use Rattle.resolver_clause_store.specs.declared.clauses.StoredRequirement.{StoredRequirement}
use Rattle.resolver_clause_store.specs.TrailView.{length_of}
use Rattle.resolver_clause_store.specs.Queues.{IsQueued}
use Rattle.resolver_clause_store.proofs.queue.DecideQueue.follow.Given as goal

abbrev pub invariant-places : goal.invariant-places
invariant-places l = record {
  queued : (table : List (List Literal)) (requirements : List StoredRequirement) → IsQueued l.initial.self l.trail table requirements →
      IsQueued l.self l.trail table requirements;
  all : length l.self.followed.items ≡ l.self.kept;
  inside : l.self.kept ≤ length_of l.trail;
}

abbrev pub decreases-places : goal.decreases-places
decreases-places l = length_of l.trail - l.self.kept
