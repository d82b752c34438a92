use Rattle.std.proofs.Common.{◌≡◌, ◌<◌, ◌≤◌, ℕ, Some, true}
use Rattle.std.specs.Prelude.{slice_get}
use Rattle.resolver_clause_store.specs.declared.watches.Watch.{Watch}
use Rattle.resolver_clause_store.specs.TrailView.{literal_value}
use Rattle.resolver_clause_store.proofs.watches.first_unsatisfied.Given as goal

abbrev pub invariant-watches : goal.invariant-watches
invariant-watches l = (k : ℕ) (watch : Watch) → l.from ≤ k → k < l.place → slice_get l.watches k ≡ Some watch →
    literal_value l.trail watch.blocker ≡ Some true
