-- The literals that negate the marked variables.
use Rattle.std.proofs.Common.{ℕ, List, Bool, ⊎_elim}
use Rattle.std.specs.Prelude.{not}
use Rattle.std.proofs.lemmas.Bool.{cases_Bool}
use Rattle.resolver_clause_store.specs.Literals.{Literal}
use Rattle.resolver_clause_store.specs.declared.Slot.{Slot}
use Rattle.resolver_clause_store.specs.declared.Trail.{Trail}
use Rattle.resolver_clause_store.specs.Formula.{clause_true, FollowsFrom}
use Rattle.resolvo.specs.Resolvents.{Negates, Refutes}
use Rattle.resolver_clause_store.proofs.FormulaLemmas.{beq-not, false-contains}

abbrev pub negation : ℕ → Slot → Literal
negation variable slot = record { variable = variable; positive = not slot.value }

-- if the causes are true, some variable differs from the trail
pub learnt-follows : (table : List (List Literal)) (trail : Trail) (marks : List Bool) (causes : List ℕ) (literals : List Literal) →
    Refutes table trail marks causes → Negates trail marks literals → FollowsFrom table causes literals
learnt-follows table trail marks causes literals refutes negates = λ values holds. ⊎_elim
    (λ yes. yes)
    (λ no. absurd (refutes.apart values holds (λ v s m at. beq-not _ _ (false-contains values literals _ no (negates.each v s m at)))))
    (cases_Bool (clause_true values literals))
