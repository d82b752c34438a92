use Rattle.resolver_clause_store.proofs.WatchListLemmas.{watched-empty}
use Rattle.resolver_clause_store.proofs.watches.Watches.empty.Goals as goal

pub invariant_of-result : goal.invariant_of-result
invariant_of-result c = record { watched = watched-empty _ _ c.new.ensures c.new-2.ensures.items }
