use Rattle.std.proofs.Common.{◌≤◌}
use Rattle.resolver_clause_store.proofs.decisions.open_between.Given as goal

abbrev pub invariant-literals : goal.invariant-literals
invariant-literals l = l.count ≤ l.place
