use Rattle.resolver_clause_store.proofs.WatchListLemmas.{taken-back}
use Rattle.resolver_clause_store.proofs.watches.push_both.Goals as goal

pub returns-in-Err-clause-unchanged : goal.returns-in-Err-clause-unchanged
returns-in-Err-clause-unchanged c =
    taken-back _ _ _ _ _ c.in_ok-push.ensures.pushed (rw (c.in-Err.ensures.unchanged, c.at-place.ensures) at c.take.ensures c.new.result)
