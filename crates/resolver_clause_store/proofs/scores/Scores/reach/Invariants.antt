use Rattle.std.proofs.Common.{◌≡◌, ◌+◌, ◌-◌, ℕ, length}
use Rattle.resolver_clause_store.specs.Scores.{kept_score}
use Rattle.resolver_clause_store.proofs.scores.Scores.reach.Given as goal

abbrev pub invariant-packages : goal.invariant-packages
invariant-packages l = record {
  same : (other : ℕ) → kept_score l.self.scores.items other ≡ kept_score l.initial.self.scores.items other;
  activity : l.self.activity ≡ l.initial.self.activity;
}

abbrev pub decreases-packages : goal.decreases-packages
decreases-packages l = l.number + 1 - length l.self.scores.items
