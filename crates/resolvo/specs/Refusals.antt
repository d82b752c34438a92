-- What each refusal means.
use Rattle.std.specs.Prelude.{ℕ, IfOk, List, Result}
use Rattle.resolver_clause_store.specs.Outcomes.{IsCore}
use Rattle.resolver_clause_store.specs.Universe.{Universe, Demands}
use Rattle.resolver_clause_store.specs.declared.SoftRequirement.{SoftRequirement}
use Rattle.resolver_encoding.specs.Encodings.{IsEncoding, Notes}
use Rattle.resolver_encoding.specs.Refusals.{IsShortage}
use Rattle.resolvo.specs.Explanations.{Explains}
use Rattle.resolvo.specs.RoundStates.{IsDone, IsStuck}
use Rattle.resolvo.specs.declared.rounds.Found.{Found}
use Rattle.resolvo.specs.declared.rounds.Rounds.{Rounds}
use Rattle.resolvo.specs.declared.solver.UnsolvableOrCancelled.{UnsolvableOrCancelled}
use Rattle.resolvo.specs.declared.solver.UnsolvableOrCancelled.TheVariants.{Unsolvable, Cancelled, Exhausted}

-- the conflict explains itself, or the provider stopped the search, or something ran out
abbrev pub IsRefusal : {D N S C : Type 0} → Universe N S → (C → Type 0) → Demands → Type 0 → UnsolvableOrCancelled D C N S → Type 0
IsRefusal u may_cancel root at_limit (Unsolvable c) = Explains u root c.rules.items
IsRefusal u may_cancel root at_limit (Cancelled value) = may_cancel value
IsRefusal u may_cancel root at_limit (Exhausted e) = IsShortage at_limit e

-- a refusal because of a core of an encoding
abbrev pub RefusesCore : {D N S C : Type 0} → Universe N S → (C → Type 0) → Notes N S → List ℕ → UnsolvableOrCancelled D C N S → Type 0
RefusesCore u may_cancel notes core refusal = (root : Demands) → IsEncoding u root notes → IsCore notes.table core → IsRefusal u may_cancel root ⊥ refusal

-- a refusal because of what the rounds found
abbrev pub RefusesFound : {D N S C E : Type 0} → Universe N S → (C → Type 0) → Rounds N S → Result Found E → UnsolvableOrCancelled D C N S → Type 0
RefusesFound {D} {N} {S} u may_cancel rounds found refusal = (root : Demands) (soft : List (SoftRequirement S)) → IfOk found (IsDone u root soft rounds) →
    IsRefusal u may_cancel root (IsStuck rounds) refusal
