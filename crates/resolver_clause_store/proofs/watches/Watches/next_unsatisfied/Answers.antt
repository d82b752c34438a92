use Rattle.resolver_clause_store.proofs.WatchListLemmas.{found-next, next-watching}
use Rattle.resolver_clause_store.proofs.watches.Watches.next_unsatisfied.Goals as goal

pub returns-clause-value : goal.returns-clause-value
returns-clause-value c = rw (c.at-watches.ensures, c.list_number.ensures) at (found-next _ _ _ _ _ c.first_unsatisfied.ensures c.watch_in.ensures)

pub returns-clause-watching : goal.returns-clause-watching
returns-clause-watching c = next-watching _ _ _ _ _ _ _ _ c.args.self.now.watched c.list_number.ensures c.at-watches.ensures
    (found-next _ _ _ _ _ c.first_unsatisfied.ensures c.watch_in.ensures)
