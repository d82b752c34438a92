use Rattle.std.proofs.Common.{true, ◌≡◌}
use Rattle.resolver_clause_store.proofs.FirstChoiceLemmas.{IsFirst-closed, IsFirst-least}
use Rattle.resolver_clause_store.proofs.laws.first_choices_are_least_closed.Goals as goal

pub returns-clause-closed : goal.returns-clause-closed
returns-clause-closed g c = λ u root s h. IsFirst-closed u root s h

pub returns-clause-least : goal.returns-clause-least
returns-clause-least g c = λ u root closed step s h. IsFirst-least u root (λ t. closed t ≡ true) step s h
