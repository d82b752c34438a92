use Rattle.resolver_clause_store.proofs.WatchListLemmas.{watched-lists}
use Rattle.resolver_clause_store.proofs.watches.Watches.grow.Goals as goal

pub invariant_of-self : goal.invariant_of-self
invariant_of-self c = record { watched = watched-lists _ _ _ c.grow.ensures.same c.args.self.now.watched }
