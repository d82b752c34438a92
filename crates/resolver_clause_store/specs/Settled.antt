-- Clauses that leave no literal to set.
use Rattle.std.specs.Prelude.{◌≡◌, ◌≢◌, ℕ, ◌<◌, ◌⊎◌, None, List, length, Contains}
use Rattle.resolver_clause_store.specs.Literals.{Literal}
use Rattle.resolver_clause_store.specs.declared.trail.Trail.{Trail}
use Rattle.resolver_clause_store.specs.Formula.{clause_at}
use Rattle.resolver_clause_store.specs.TrailView.{literal_value}
use Rattle.resolver_clause_store.specs.Outcomes.{IsSatisfied}

-- two different literals of the clause have no value
pub record IsOpen (trail : Trail) (clause : List Literal) : Type 0 where
  pub first : Literal
  pub second : Literal
  pub has_first : Contains clause first
  pub has_second : Contains clause second
  pub differ : first ≢ second
  pub first_open : literal_value trail first ≡ None
  pub second_open : literal_value trail second ≡ None

-- the clause is true, or has two literals without a value: it is not false, and forces nothing
abbrev pub IsSettled : Trail → List Literal → Type 0
IsSettled trail clause = IsSatisfied trail clause ⊎ IsOpen trail clause

-- each clause is true or has two literals without a value
abbrev pub AllSettled : Trail → List (List Literal) → Type 0
AllSettled trail table = (number : ℕ) → number < length table → IsSettled trail (clause_at table number)
