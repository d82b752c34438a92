-- Candidates that may be decided.
use Rattle.std.specs.Prelude.{◌≡◌, ◌≢◌, ℕ, ◌<◌, ◌⊎◌, true, false, Option, Some, None, List, length, Contains, slice_index_or}
use Rattle.resolver_clause_store.specs.Literals.{Literal}
use Rattle.resolver_clause_store.specs.declared.clauses.StoredRequirement.{StoredRequirement}
use Rattle.resolver_clause_store.specs.declared.trail.Trail.{Trail}
use Rattle.resolver_clause_store.specs.Formula.{clause_at}
use Rattle.resolver_clause_store.specs.TrailView.{literal_value}
use Rattle.resolver_clause_store.specs.Outcomes.{IsMet}
use Rattle.resolver_clause_store.specs.declared.decisions.Choice.{Choice}
use Rattle.resolver_clause_store.specs.declared.standing.Standing.{Standing}
use Rattle.resolver_clause_store.specs.declared.standing.Standing.TheVariants.{Inactive, Met, Open}

-- the literal at this place of the clause is positive and has no value, and those before it are false
pub record IsFirstUnassigned (trail : Trail) (clause : List Literal) (place : ℕ) : Type 0 where
  pub within : place < length clause
  pub positive : (d : Literal) → (slice_index_or clause place d).positive ≡ true
  pub free : (d : Literal) → literal_value trail (slice_index_or clause place d) ≡ None
  pub false_before : (k : ℕ) (d : Literal) → k < place → literal_value trail (slice_index_or clause k d) ≡ Some false
  pub unmet : IsMet trail clause → ⊥

-- what is known after the first `count` literals of a clause, where `first` is the place of the first one without a
-- value
pub record HasPassed (trail : Trail) (clause : List Literal) (count : ℕ) (first : Option ℕ) : Type 0 where
  pub undecided : (k : ℕ) (d : Literal) → k < count → (literal_value trail (slice_index_or clause k d) ≡ Some false) ⊎
      ((literal_value trail (slice_index_or clause k d) ≡ None) × ((slice_index_or clause k d).positive ≡ true))
  pub none : first ≡ None → (k : ℕ) (d : Literal) → k < count → literal_value trail (slice_index_or clause k d) ≡ Some false
  pub some : (place : ℕ) → first ≡ Some place → (place < count) × ((d : Literal) → literal_value trail (slice_index_or clause place d) ≡ None) ×
      ((k : ℕ) (d : Literal) → k < place → literal_value trail (slice_index_or clause k d) ≡ Some false)

-- the choice is for this requirement, and takes the first literal of its clause that is not false
pub record IsChoiceOf (trail : Trail) (table : List (List Literal)) (requirement : StoredRequirement) (choice : Choice) : Type 0 where
  pub number_is : requirement.number ≡ choice.number
  pub first : IsFirstUnassigned trail (clause_at table choice.number) choice.place

-- the choice is for one of the requirements
pub record IsChoice (trail : Trail) (table : List (List Literal)) (requirements : List StoredRequirement) (choice : Choice) : Type 0 where
  pub requirement : StoredRequirement
  pub listed : Contains requirements requirement
  pub chosen : IsChoiceOf trail table requirement choice

-- the state of a requirement under a trail
abbrev pub StandingIs : Trail → List Literal → Standing → Type 0
StandingIs trail clause (Inactive variable) = Contains clause (record { variable = variable; positive = false }) ×
    (literal_value trail (record { variable = variable; positive = false }) ≢ Some false)
StandingIs trail clause (Met variable) = Contains clause (record { variable = variable; positive = true }) ×
    (literal_value trail (record { variable = variable; positive = true }) ≡ Some true)
StandingIs trail clause (Open place count) = IsFirstUnassigned trail clause place
