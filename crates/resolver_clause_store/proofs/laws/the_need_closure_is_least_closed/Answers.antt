use Rattle.std.proofs.Common.{true, ◌≡◌}
use Rattle.resolver_clause_store.proofs.NearLemmas.{IsNear-closed, IsNear-least, IsNear-seed}
use Rattle.resolver_clause_store.proofs.laws.the_need_closure_is_least_closed.Goals as goal

pub returns-clause-seeds : goal.returns-clause-seeds
returns-clause-seeds g c = λ u root seeds s h. IsNear-seed u root seeds s h

pub returns-clause-closed : goal.returns-clause-closed
returns-clause-closed g c = λ u root seeds s h. IsNear-closed u root seeds s h

pub returns-clause-least : goal.returns-clause-least
returns-clause-least g c = λ u root seeds test closed s h. IsNear-least u root seeds (λ t. test t ≡ true) closed.has_seeds closed.has_next s h
