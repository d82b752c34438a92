-- Answers to a problem with soft requirements.
use Rattle.std.specs.Prelude.{◌≢◌, ◌++◌, AllPairs, IfOk, List, Option, Result, map}
use Rattle.resolver_clause_store.specs.FirstChoice.{TakesFirstChoices}
use Rattle.resolver_clause_store.specs.SoftRun.{SoftRun}
use Rattle.resolver_clause_store.specs.Universe.{Universe, Demands}
use Rattle.resolver_clause_store.specs.declared.SoftRequirement.{SoftRequirement}
use Rattle.resolver_clause_store.specs.declared.SoftRequirement.TheVariants.{Solvable}
use Rattle.resolvo.specs.Problems.{AreItems, root_demands, soft_in}
use Rattle.resolver_report.specs.Listed.{optional_items}
use Rattle.resolvo.specs.RoundStates.{IsDone}
use Rattle.resolvo.specs.declared.problem.Problem.{Problem}
use Rattle.resolvo.specs.declared.rounds.Found.{Found}
use Rattle.resolvo.specs.declared.rounds.Rounds.{Rounds}

-- The chosen solvables are the end of a run over the soft requirements, with these exempt, and none is chosen twice. Where first choices are
-- promised, the run starts from them. The run refuses a soft requirement only if it fits into no answer that keeps everything chosen before.
pub record IsSoftAnswer {N S : Type 0} (u : Universe N S) (root : Demands) (soft : List (SoftRequirement S)) (chosen exempt : List S) : Type 0 where
  pub first : List S
  pub promise : TakesFirstChoices u root first
  pub taken : List S
  pub asked : List N
  pub run : SoftRun u root first soft taken chosen exempt asked
  pub once : AllPairs ◌≢◌ chosen

-- the same for a problem, whose iterator yields the first soft requirements
abbrev pub IsAnswerTo : {N S I : Type 0} → Universe N S → (I → Option S → I → Type 0) → Problem S I → List S → List S → Type 0
IsAnswerTo {N} {S} u gives problem chosen exempt = (soft : List S) × AreItems gives (soft_in problem) soft ×
    IsSoftAnswer u (root_demands problem) (map (λ s. Solvable s) soft ++ optional_items problem.soft_list) chosen exempt

-- an answer because of what the rounds found
abbrev pub AnswersFound : {N S E : Type 0} → Universe N S → Rounds N S → Result Found E → List S → List S → Type 0
AnswersFound {N} {S} u rounds found chosen exempt = (root : Demands) (soft : List (SoftRequirement S)) → IfOk found (IsDone u root soft rounds) →
    IsSoftAnswer u root soft chosen exempt
