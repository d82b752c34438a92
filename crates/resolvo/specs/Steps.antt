-- What comes next in a search.
use Rattle.std.specs.Prelude.{◌+◌, ◌⊎◌, ℕ, All, List, slice_index_or}
use Rattle.resolver_clause_store.specs.Literals.{Literal}
use Rattle.resolver_clause_store.specs.declared.Choice.{Choice}
use Rattle.resolver_clause_store.specs.declared.Reason.TheVariants.{Decided}
use Rattle.resolver_clause_store.specs.declared.StoredRequirement.{StoredRequirement}
use Rattle.resolver_clause_store.specs.declared.Trail.{Trail}
use Rattle.resolver_clause_store.specs.Decisions.{IsChoice}
use Rattle.resolver_clause_store.specs.Formula.{clause_at}
use Rattle.resolver_clause_store.specs.Outcomes.{IsMet}
use Rattle.resolver_clause_store.specs.Settled.{AllSettled}
use Rattle.resolver_clause_store.specs.TrailView.{Gains, level_of}
use Rattle.resolvo.specs.Propagation.{IsConflict}
use Rattle.resolvo.specs.declared.clause_search.Step.{Step}
use Rattle.resolvo.specs.declared.clause_search.Step.TheVariants.{Decide, Conflict, Finished}

-- no clause forces anything more, and no requirement is left to decide
pub record AreDone (trail : Trail) (table : List (List Literal)) (requirements : List StoredRequirement) : Type 0 where
  pub settled : AllSettled trail table
  pub met : All (λ (requirement : StoredRequirement). IsMet trail (clause_at table requirement.number)) requirements

-- a choice that may be decided, the number of a false clause, or nothing, where nothing is left to do
abbrev pub StepIs : Trail → List (List Literal) → List StoredRequirement → Step → Type 0
StepIs trail table requirements (Decide choice) = IsChoice trail table requirements choice
StepIs trail table requirements (Conflict number) = IsConflict trail table number
StepIs trail table requirements Finished = AreDone trail table requirements

-- the candidate of the choice has become true, at a level of its own, and nothing else has changed
abbrev pub TakesChoice : Trail → Trail → List (List Literal) → Choice → Type 0
TakesChoice old new table choice =
    (d : Literal) → Gains old new (slice_index_or (clause_at table choice.number) choice.place d) (level_of old + 1) (Decided choice.number)

-- the last thing that was done is a decision
pub record EndsDecided (trail : Trail) (table : List (List Literal)) (requirements : List StoredRequirement) : Type 0 where
  pub before : Trail
  pub choice : Choice
  pub next : IsChoice before table requirements choice
  pub taken : TakesChoice before trail table choice

-- a clause is false, or nothing is left to do
abbrev pub HasNoNext : Trail → List (List Literal) → List StoredRequirement → Type 0
HasNoNext trail table requirements = ((number : ℕ) × IsConflict trail table number) ⊎ AreDone trail table requirements
