use Rattle.std.proofs.Common.{◌≡◌, ◌<◌, ◌⊎◌, ℕ, Some, false}
use Rattle.std.specs.Prelude.{slice_index_or}
use Rattle.resolver_clause_store.specs.Literals.{Literal}
use Rattle.resolver_clause_store.specs.TrailView.{literal_value}
use Rattle.resolvo.proofs.propagator.visiting.first_replacement.Given as goal

abbrev pub invariant-literals : goal.invariant-literals
invariant-literals l = (k : ℕ) (d : Literal) → k < l.place → (slice_index_or l.literals k d ≡ l.other) ⊎
    (literal_value l.trail (slice_index_or l.literals k d) ≡ Some false)
