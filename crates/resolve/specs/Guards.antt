-- Guards in postfix order, and what the code's parts of a statement say.
use Rattle.std.specs.Prelude.{◌≡◌, ℕ, List, [], ◌∷◌, ◌++◌, Option, Some, None, map, ⊤}
use Rattle.resolve.specs.declared.condition.ConditionStep.{ConditionStep}
use Rattle.resolve.specs.declared.condition.ConditionStep.TheVariants.{Version, And, Or}
use Rattle.resolve.specs.declared.words.Spec.{Spec}
use Rattle.resolve.specs.declared.statement.LineError.{LineError}
use Rattle.resolve.specs.declared.statement.LineError.TheVariants.{Bad, Exhausted}
use Rattle.resolve.specs.Said.{Guard, Need, Wanted, on, both, either}
use Rattle.resolve.specs.Spelling.{Guards, any_of}
use Rattle.resolve.specs.Unions.{wanted_of}

-- a step as a guard has it
pub data GuardStep : Type 0 where
  on_step : Wanted → GuardStep
  and_step : GuardStep
  or_step : GuardStep

abbrev pub step_seen : ConditionStep → GuardStep
step_seen (Version spec) = on_step (wanted_of spec)
step_seen And = and_step
step_seen Or = or_step

-- the steps of a guard: those of its left part, those of its right part, and its operator
abbrev pub postfix : Guard → List GuardStep
postfix (on wanted) = on_step wanted ∷ []
postfix (both g h) = postfix g ++ (postfix h ++ and_step ∷ [])
postfix (either g h) = postfix g ++ (postfix h ++ or_step ∷ [])

-- the steps are those of the guard, and there are none without one
abbrev pub AreSteps : List ConditionStep → Option Guard → Type 0
AreSteps steps None = steps ≡ []
AreSteps steps (Some g) = map step_seen steps ≡ postfix g

-- the specs and steps are this need
pub record AreNeed (union : List Spec) (steps : List ConditionStep) (need : Need) : Type 0 where
  pub union_is : map wanted_of union ≡ need.union
  pub steps_are : AreSteps steps need.guard

-- the words were read as these steps
abbrev pub ReadsGuard : List (List ℕ) → List ConditionStep → Type 0
ReadsGuard words steps = (g : Guard) × Guards any_of words g × AreSteps steps (Some g)

-- if the words are bad, they are no guard
abbrev pub RefusesGuard : List (List ℕ) → LineError → Type 0
RefusesGuard words Bad = (g : Guard) → Guards any_of words g → ⊥
RefusesGuard words (Exhausted e) = ⊤
