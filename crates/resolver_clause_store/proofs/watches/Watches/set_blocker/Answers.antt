use Rattle.std.proofs.Common.{refl}
use Rattle.resolver_clause_store.proofs.WatchListLemmas.{fit-at, fit-set, fits-with, same-clauses, watched-set}
use Rattle.resolver_clause_store.proofs.watches.Watches.set_blocker.Goals as goal

pub invariant_of-self : goal.invariant_of-self
invariant_of-self c = record {
  watched = watched-set _ _ _ _ _ _ _ c.args.self.now.watched (rw c.list_number.ensures at c.set.ensures) c.requires.placed refl;
}

pub returns-clause-same : goal.returns-clause-same
returns-clause-same c = same-clauses _ _ _ _ _ c.args.blocker c.requires.placed (rw c.list_number.ensures at c.set.ensures)

pub returns-clause-fit : goal.returns-clause-fit
returns-clause-fit c = λ table contains has.
    fit-set table _ _ _ _ _ (rw c.list_number.ensures at c.set.ensures)
    (fits-with table c.args.placed.now.watch c.args.blocker (fit-at table _ _ _ _ has c.requires.placed) contains) has
