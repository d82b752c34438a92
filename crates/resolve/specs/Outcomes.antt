-- The outcome of an input.
use Rattle.std.specs.Prelude.{ℕ, List, MatchResult, Result, Vec, ⊤, string_bytes}
use Rattle.std.specs.Global.{Global}
use Rattle.resolvo.specs.Answers.{IsSoftAnswer}
use Rattle.resolvo.specs.Conflicts.{rules_in}
use Rattle.resolvo.specs.Explanations.{Explains}
use Rattle.resolvo.specs.declared.solver.UnsolvableOrCancelled.{UnsolvableOrCancelled}
use Rattle.resolvo.specs.declared.solver.UnsolvableOrCancelled.TheVariants.{Unsolvable, Cancelled, Exhausted}
use Rattle.resolve.specs.declared.catalog.Catalog.{Catalog}
use Rattle.resolve.specs.declared.ids.NameId.{NameId}
use Rattle.resolve.specs.declared.ids.SolvableId.{SolvableId}
use Rattle.resolve.specs.declared.request.Request.{Request}
use Rattle.resolve.specs.declared.run.Fault.{Fault}
use Rattle.resolve.specs.declared.run.Fault.TheVariants.{BadStatement, UnreadableInput, UnwritableOutput, Exhausted as RanOut}
use Rattle.resolve.specs.declared.run.Outcome.{Outcome}
use Rattle.resolve.specs.declared.run.Outcome.TheVariants.{Answer, Conflict}
use Rattle.resolve.specs.Inputs.{IsFirstBad, IsInput}
use Rattle.resolve.specs.InputsView.{input_in}
use Rattle.resolve.specs.Meaning.{Input}
use Rattle.resolve.specs.Runs.{IsAnswer, IsAnswerToBytes, IsMessage, IsMessageTo}
use Rattle.resolve.specs.Universes.{input_demands, universe_in}

-- the outcome's text is an answer to the input, or tells why there is none
abbrev pub IsOutcomeIn : Input → Outcome → Type 0
IsOutcomeIn input (Answer text) = IsAnswer input (string_bytes text)
IsOutcomeIn input (Conflict text) = IsMessage input (string_bytes text)

abbrev pub IsOutcomeTo : List ℕ → Outcome → Type 0
IsOutcomeTo bytes (Answer text) = IsAnswerToBytes bytes (string_bytes text)
IsOutcomeTo bytes (Conflict text) = IsMessageTo bytes (string_bytes text)

-- if the fault is a bad statement, it is the first one
abbrev pub IsFaultTo : List ℕ → Fault → Type 0
IsFaultTo bytes (BadStatement number) = IsFirstBad bytes number
IsFaultTo bytes UnreadableInput = ⊤
IsFaultTo bytes UnwritableOutput = ⊤
IsFaultTo bytes (RanOut e) = ⊤

abbrev pub IsToldTo : List ℕ → Result Outcome Fault → Type 0
IsToldTo bytes told = MatchResult told (IsOutcomeTo bytes) (IsFaultTo bytes)

-- the request is what the bytes say
abbrev pub IsReadTo : List ℕ → Result Request Fault → Type 0
IsReadTo bytes read = MatchResult read (λ request. IsInput bytes (input_in request)) (IsFaultTo bytes)

-- if the input has a conflict, its rules explain why
abbrev pub ExplainsConflict : {C : Type 0} → Input → UnsolvableOrCancelled Catalog C NameId SolvableId → Type 0
ExplainsConflict input (Unsolvable conflict) = Explains (universe_in input.tables) (input_demands input) (rules_in conflict)
ExplainsConflict input (Cancelled value) = ⊤
ExplainsConflict input (Exhausted e) = ⊤

-- the chosen solvables are an answer to the input
abbrev pub AnswersInput : Input → Vec SolvableId Global → Type 0
AnswersInput input chosen = (exempt : List SolvableId) × IsSoftAnswer (universe_in input.tables) (input_demands input) input.soft chosen.items exempt

abbrev pub IsSolved : {C : Type 0} → Input → Result (Vec SolvableId Global) (UnsolvableOrCancelled Catalog C NameId SolvableId) → Type 0
IsSolved input answered = MatchResult answered (AnswersInput input) (ExplainsConflict input)
