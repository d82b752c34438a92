-- Reading a guard word by word, from left to right.
use Rattle.std.specs.Prelude.{◌≡◌, ℕ, ◌⊎◌, not, List, [], ◌∷◌, ◌++◌, Option, Some, None, codes, is_some, map, ⊤}
use Rattle.resolve.specs.declared.condition.ConditionStep.{ConditionStep}
use Rattle.resolve.specs.declared.condition.PendingOperators.{PendingOperators}
use Rattle.resolve.specs.declared.condition.Reading.{Reading}
use Rattle.resolve.specs.declared.statement.LineError.{LineError}
use Rattle.resolve.specs.declared.statement.LineError.TheVariants.{Bad, Exhausted}
use Rattle.resolve.specs.Guards.{GuardStep, postfix, step_seen}
use Rattle.resolve.specs.Said.{Guard, Wanted, on, both, either}
use Rattle.resolve.specs.Spelling.{Wants}

-- the left parts of the operators that wait for their right parts, inside one pair of parentheses
pub record Level : Type 0 where
  pub or_left : Option Guard
  pub and_left : Option Guard

-- what was read: the levels outside the open parentheses, the innermost first, the level inside, and the part at hand
pub record State : Type 0 where
  pub outside : List Level
  pub here : Level
  pub part : Option Guard

abbrev pub no_level : Level
no_level = record { or_left = None; and_left = None }

abbrev pub state : List Level → Level → Option Guard → State
state outside here part = record { outside = outside; here = here; part = part }

abbrev pub joined_and : Option Guard → Guard → Guard
joined_and None g = g
joined_and (Some left) g = both left g

abbrev pub joined_or : Option Guard → Guard → Guard
joined_or None g = g
joined_or (Some left) g = either left g

abbrev pub joined_all : Level → Guard → Guard
joined_all level g = joined_or level.or_left (joined_and level.and_left g)

-- one word where a part is wanted, and where an operator is
abbrev pub StepAt : Option Guard → List Level → Level → List ℕ → State → Type 0
StepAt None outside here word next =
    ((word ≡ codes "(") × (next ≡ state (here ∷ outside) no_level None)) ⊎ ((it : Wanted) × Wants word it × (next ≡ state outside here (Some (on it))))
StepAt (Some g) outside here word next =
    ((word ≡ codes "and") × (next ≡ state outside (record { or_left = here.or_left; and_left = Some (joined_and here.and_left g) }) None)) ⊎
    (((word ≡ codes "or") × (next ≡ state outside (record { or_left = Some (joined_all here g); and_left = None }) None)) ⊎
    ((word ≡ codes ")") × (level : Level) × (levels : List Level) × (outside ≡ level ∷ levels) × (next ≡ state levels level (Some (joined_all here g)))))

abbrev pub Step : State → List ℕ → State → Type 0
Step before word next = StepAt before.part before.outside before.here word next

-- the steps of what was read
abbrev pub steps_of_part : Option Guard → List GuardStep
steps_of_part None = []
steps_of_part (Some g) = postfix g

abbrev pub steps_of_level : Level → List GuardStep
steps_of_level level = steps_of_part level.or_left ++ steps_of_part level.and_left

abbrev pub steps_outside : List Level → List GuardStep
steps_outside [] = []
steps_outside (level ∷ levels) = steps_outside levels ++ steps_of_level level

abbrev pub steps_of : State → List GuardStep
steps_of s = steps_outside s.outside ++ (steps_of_level s.here ++ steps_of_part s.part)

abbrev pub pending_operators : Level → PendingOperators
pending_operators level = record { or = is_some level.or_left; and = is_some level.and_left }

abbrev pub pending_outside : List Level → List PendingOperators
pending_outside [] = []
pending_outside (level ∷ levels) = pending_outside levels ++ pending_operators level ∷ []

-- the reading has the steps, the pending operators and the open parentheses of the state
pub record Shows (it : Reading) (s : State) : Type 0 where
  pub steps : map step_seen it.steps.items ≡ steps_of s
  pub pending : it.pending ≡ pending_operators s.here
  pub outside : it.outside.items ≡ pending_outside s.outside
  pub part : it.wants_part ≡ not (is_some s.part)

-- the state after a pending `and` got its right part
abbrev pub after_and : List Level → Level → Guard → State
after_and outside here g = state outside (record { or_left = here.or_left; and_left = None }) (Some (joined_and here.and_left g))

-- the state after all pending operators inside the innermost parentheses got their right parts
abbrev pub after_level : List Level → Level → Guard → State
after_level outside here g = state outside no_level (Some (joined_all here g))

-- the word leads to a state that the reading has
pub record StepsTo (before : State) (word : List ℕ) (it : Reading) : Type 0 where
  pub next : State
  pub step : Step before word next
  pub shows : Shows it next

-- if the word is bad, it leads nowhere
abbrev pub RefusesWord : State → List ℕ → LineError → Type 0
RefusesWord before word Bad = (next : State) → Step before word next → ⊥
RefusesWord before word (Exhausted e) = ⊤

-- nothing is open, and the steps are those of all that was read
pub record EndsWithSteps (s : State) (steps : List ConditionStep) : Type 0 where
  pub here : Level
  pub part : Guard
  pub is : s ≡ state [] here (Some part)
  pub steps_are : map step_seen steps ≡ postfix (joined_all here part)

-- if the end is bad, something is open or a part is wanted
abbrev pub RefusesEnd : State → LineError → Type 0
RefusesEnd s Bad = (here : Level) (part : Guard) → s ≡ state [] here (Some part) → ⊥
RefusesEnd s (Exhausted e) = ⊤
