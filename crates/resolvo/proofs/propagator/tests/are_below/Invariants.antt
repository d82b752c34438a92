use Rattle.std.proofs.Common.{ℕ, ◌<◌}
use Rattle.resolver_clause_store.specs.Formula.{clause_at, IsBelow}
use Rattle.resolvo.proofs.propagator.tests.are_below.Given as goal

abbrev pub invariant-clauses : goal.invariant-clauses
invariant-clauses l = (k : ℕ) → k < l.number → IsBelow l.variables (clause_at l.table k)
