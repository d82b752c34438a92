use Rattle.resolver_clause_store.specs.LastOpens.{NoneIsTrueFrom}
use Rattle.resolver_clause_store.proofs.last_open.none_is_true_from.Given as goal

abbrev pub invariant-places : goal.invariant-places
invariant-places l = NoneIsTrueFrom l.trail l.from l.place
