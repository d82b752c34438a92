-- What the end of a search over clauses means.
use Rattle.std.specs.Prelude.{◌≡◌, ◌⊎◌, ◌++◌, ◌∷◌, ◌<◌, ℕ, Bool, true, false, Some, None, List, length, All, Any, Contains}
use Rattle.std.specs.Bool.{beq}
use Rattle.resolver_clause_store.specs.Literals.{Literal}
use Rattle.resolver_clause_store.specs.declared.clauses.RequirementClause.{RequirementClause}
use Rattle.resolver_clause_store.specs.declared.trail.Reason.TheVariants.{Assumed}
use Rattle.resolver_clause_store.specs.declared.trail.Slot.{Slot}
use Rattle.resolver_clause_store.specs.declared.trail.Trail.{Trail}
use Rattle.resolver_clause_store.specs.Formula.{clause_at, clause_true, MakesTrue, Satisfies}
use Rattle.resolver_clause_store.specs.TrailView.{slot_of, literal_value}

-- each literal of the clause is false
abbrev pub IsFalsified : Trail → List Literal → Type 0
IsFalsified trail clause = All (λ literal. literal_value trail literal ≡ Some false) clause

-- some literal of the clause is true
abbrev pub IsSatisfied : Trail → List Literal → Type 0
IsSatisfied trail clause = Any (λ literal. literal_value trail literal ≡ Some true) clause

-- the literal is false, and was already false before this place
pub record IsFalseBefore (trail : Trail) (place : ℕ) (literal : Literal) : Type 0 where
  pub slot : Slot
  pub is : slot_of trail literal.variable ≡ Some slot
  pub false_there : beq slot.value literal.positive ≡ false
  pub earlier : slot.place < place

-- each literal of the clause but this one was false before this place
abbrev pub IsForcing : Trail → ℕ → Literal → List Literal → Type 0
IsForcing trail place literal clause = All (λ other. (other ≡ literal) ⊎ IsFalseBefore trail place other) clause

-- the clause is true wherever all the clauses are
abbrev pub IsImplied : List (List Literal) → List Literal → Type 0
IsImplied clauses clause = (values : ℕ → Bool) → Satisfies values clauses → clause_true values clause ≡ true

-- the variable is true, and in a requirement clause it comes after literals that were all false before
pub record IsChosen (clauses : List (List Literal)) (requirements : List RequirementClause) (trail : Trail) (variable : ℕ) (slot : Slot) : Type 0 where
  pub requirement : RequirementClause
  pub listed : Contains requirements requirement
  pub value : slot.value ≡ true
  pub before : List Literal
  pub after : List Literal
  pub clause : clause_at clauses requirement.number ≡ before ++ record { variable = variable; positive = true } ∷ after
  pub false_before : All (IsFalseBefore trail slot.place) before

-- a clause that follows from the clauses has forced the variable
pub record IsForced (clauses : List (List Literal)) (trail : Trail) (variable : ℕ) (slot : Slot) : Type 0 where
  pub clause : List Literal
  pub implied : IsImplied clauses clause
  pub forcing : IsForcing trail slot.place (record { variable = variable; positive = slot.value }) clause

-- why the variable has its value
abbrev pub IsReasoned : List (List Literal) → List RequirementClause → Trail → ℕ → Slot → Type 0
IsReasoned clauses requirements trail variable slot =
    IsChosen clauses requirements trail variable slot ⊎ (IsForced clauses trail variable slot ⊎ (slot.reason ≡ Assumed))

-- the clause is not false, and if all its literals but one are false, that one is true
pub record IsPropagated (trail : Trail) (clause : List Literal) : Type 0 where
  pub not_false : IsFalsified trail clause → ⊥
  pub last : (literal : Literal) → Contains clause literal →
      ((other : Literal) → Contains clause other → (other ≡ literal) ⊎ (literal_value trail other ≡ Some false)) → literal_value trail literal ≡ Some true

-- some literal of the clause is true, or one of those that it depends on has no value
abbrev pub IsMet : Trail → List Literal → Type 0
IsMet trail clause =
    IsSatisfied trail clause ⊎ Any (λ (literal : Literal). (literal_value trail literal ≡ None) × (literal.positive ≡ false)) clause

-- each value has a reason, nothing is left to force, and no requirement is left to decide
pub record IsFinished (clauses : List (List Literal)) (requirements : List RequirementClause) (trail : Trail) : Type 0 where
  pub reasons : (variable : ℕ) (slot : Slot) → slot_of trail variable ≡ Some slot → IsReasoned clauses requirements trail variable slot
  pub propagated : (number : ℕ) → number < length clauses → IsPropagated trail (clause_at clauses number)
  pub met : All (λ (requirement : RequirementClause). IsMet trail (clause_at clauses requirement.number)) requirements

-- these are numbers of clauses, and no values make all of them true
pub record IsCore (clauses : List (List Literal)) (numbers : List ℕ) : Type 0 where
  pub within : All (λ number. number < length clauses) numbers
  pub refuted : (values : ℕ → Bool) → MakesTrue values clauses numbers → ⊥
