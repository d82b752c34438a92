use Rattle.resolver_clause_store.proofs.WatchListLemmas.{placed-watching}
use Rattle.resolver_clause_store.proofs.watches.Watches.placed_at.Goals as goal

pub returns-clause-watching : goal.returns-clause-watching
returns-clause-watching c = placed-watching _ _ _ _ _ _ _ c.args.self.now.watched c.list_number.ensures c.at.ensures c.watch_in.ensures
