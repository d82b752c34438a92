use Rattle.std.proofs.Common.{◌≡◌, ◌<◌, ◌≤◌, ℕ, Some, false}
use Rattle.std.specs.Prelude.{slice_index_or}
use Rattle.resolver_clause_store.specs.Literals.{Literal}
use Rattle.resolver_clause_store.specs.TrailView.{literal_value}
use Rattle.resolver_clause_store.proofs.last_open.first_not_false.Given as goal

abbrev pub invariant-places : goal.invariant-places
invariant-places l = (k : ℕ) (d : Literal) → l.from ≤ k → k < l.place → literal_value l.trail (slice_index_or l.clause k d) ≡ Some false
