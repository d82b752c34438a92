-- The result of the rounds, and the answer of the solver.
use Rattle.std.proofs.Common.{◌≡◌, ◌⊎◌, ◌≤◌, List, [], Vec, Global, arith, length, ◌∙◌, subst, sym, inl, inr, ⊎_elim}
use Rattle.std.specs.Prelude.{IfOk, OnOk, Result, Ok, Err}
use Rattle.resolver_clause_store.specs.Universe.{Universe, Demands}
use Rattle.resolver_clause_store.specs.declared.ConditionalRequirement.{ConditionalRequirement}
use Rattle.resolver_clause_store.specs.declared.SoftRequirement.{SoftRequirement}
use Rattle.resolver_clause_store.specs.declared.VersionSetId.{VersionSetId}
use Rattle.resolver_clause_store.specs.Lists.{HasNoRepeats}
use Rattle.resolver_clause_store.specs.SoftRun.{SoftRun}
use Rattle.resolver_clause_store.specs.Variables.{AreDistinct}
use Rattle.resolver_encoding.specs.Encodings.{Notes}
use Rattle.resolvo.specs.Answers.{IsSoftAnswer}
use Rattle.resolvo.specs.ClauseSearches.{clause_count_of, learnt_count_of}
use Rattle.resolvo.specs.RoundStates.{IsBetween, IsStuck, KeepsRoundLimits, chosen_of, notes_of, search_of}
use Rattle.resolvo.specs.Refusals.{IsRefusal}
use Rattle.resolvo.specs.Solvers.{IsAtLimit, KeepsSolverLimits, rounds_in}
use Rattle.resolvo.specs.declared.clause_search.ClauseSearch.{ClauseSearch}
use Rattle.resolvo.specs.declared.rounds.Rounds.{Rounds}
use Rattle.resolvo.specs.declared.solver.Solver.{Solver}
use Rattle.resolvo.specs.declared.solver.UnsolvableOrCancelled.{UnsolvableOrCancelled}
use Rattle.resolvo.specs.declared.solver.UnsolvableOrCancelled.TheVariants.{Unsolvable, Cancelled, Exhausted}
use Rattle.resolvo.proofs.SolveLemmas.{shortage_weaker}

-- demands with these lists
pub same_demands : (d : Demands) (rs : List ConditionalRequirement) (vs : List VersionSetId) → rs ≡ d.requirements → vs ≡ d.constraints →
    record { requirements = rs; constraints = vs } ≡ d
same_demands d rs vs r v = λ i. record { requirements = r i; constraints = v i }

-- a count of the rounds at its limit is a count of the solver at its limit
pub at_limit : {D C N S : Type 0} (u : Universe N S) (made found : Rounds N S) (old new : Solver D C N S) → KeepsRoundLimits u made found →
    (notes_of made).variable_limit ≡ old.variable_limit → (notes_of made).clause_limit ≡ old.clause_limit → made.clause_limit ≡ old.clause_limit →
    made.learnt_limit ≡ old.learnt_limit → KeepsSolverLimits old new → notes_of (rounds_in new) ≡ notes_of found → search_of (rounds_in new) ≡ search_of found →
    IsStuck found → IsAtLimit new
at_limit {D} {C} {N} {S} u made found old new room variables kinds clauses learnt limits noted same stuck =
    let At : Notes N S → ClauseSearch → Type 0 = λ n s. ((length n.origins ≡ new.variable_limit) × AreDistinct n.origins)
    ⊎ ((length n.kinds ≡ new.clause_limit)
    ⊎ ((new.clause_limit ≤ clause_count_of s) ⊎ (new.learnt_limit ≤ learnt_count_of s))) in
    let AtNotes : Notes N S → Type 0 = λ n. At n (search_of (rounds_in new)) in
    subst AtNotes (sym noted) (subst (At (notes_of found)) (sym same) (⊎_elim
    (λ full. ⊎_elim
    (λ all. inl (all.0 ∙ room.variables ∙ variables ∙ sym limits.variables, all.1))
    (λ most. inr (inl (most ∙ room.kinds ∙ kinds ∙ sym limits.clauses)))
    full)
    (λ searched. ⊎_elim
    (λ many. inr (inr (inl (omega (arith, many, room.clauses, clauses, limits.clauses)))))
    (λ much. inr (inr (inr (omega (arith, much, room.learnt, learnt, limits.learnt)))))
    searched)
    stuck))

-- a refusal with a weaker meaning of the limits
pub refusal_weaker : {D N S C : Type 0} (u : Universe N S) (may_cancel : C → Type 0) (root : Demands) (at other : Type 0) → (at → other) →
    (e : UnsolvableOrCancelled D C N S) → IsRefusal u may_cancel root at e → IsRefusal u may_cancel root other e
refusal_weaker u may_cancel root at other follows (Unsolvable conflict) h = h
refusal_weaker u may_cancel root at other follows (Cancelled value) h = h
refusal_weaker u may_cancel root at other follows (Exhausted e) h = shortage_weaker at other follows e h

-- the property of the rounds, and the list of soft requirements
pub soft_given : {A E X : Type 0} (Gives : List X → Type 0) (IsAt : A → Type 0) (Is : List X → A → Type 0) (r : Result A E) →
    IfOk r (λ a. (xs : List X) × (IsAt a → Gives xs) × Is xs a) → (xs : List X) × (IfOk r (λ a. IsAt a → Gives xs)) × IfOk r (Is xs)
soft_given Gives IsAt Is (Ok a) h = (h.0, h.1, h.2)
soft_given Gives IsAt Is (Err e) h = ([], tt, tt)

-- an answer with soft requirements
pub soft_answer : {E S N : Type 0} (u : Universe N S) (rounds : Rounds N S) (result : Result (Vec S Global) E) (exempt : List S) →
    IfOk result (λ chosen. chosen.items ≡ chosen_of rounds) → OnOk result (exempt ≡ (notes_of rounds).exempt) →
    (root : Demands) (soft : List (SoftRequirement S)) → IsBetween u root soft rounds →
    IfOk result (λ chosen. IsSoftAnswer u root soft chosen.items exempt)
soft_answer {E} {S} {N} u rounds (Ok chosen) exempt are free root soft b =
    let Run : List S → List S → Type 0 = λ c e. SoftRun u root b.first soft b.taken c e (notes_of rounds).asked in
    let RunFor : List S → Type 0 = λ c. Run c exempt in
    let Once : List S → Type 0 = λ list. HasNoRepeats list in
    record {
      first = b.first;
      promise = b.promise;
      taken = b.taken;
      asked = (notes_of rounds).asked;
      run = subst RunFor (sym are) (subst (Run (chosen_of rounds)) (sym free) b.run);
      once = subst Once (sym are) b.standing.once;
    }
soft_answer u rounds (Err e) exempt are free root soft b = tt

pub OnOk-of : {A E : Type 0} (P : Type 0) → P → (r : Result A E) → OnOk r P
OnOk-of P h (Ok x) = h
OnOk-of P h (Err e) = tt

-- a property of a result that another property and a fact imply
pub IfOk-both : {A E : Type 0} (P Q : A → Type 0) (W : Type 0) → ((x : A) → P x → W → Q x) → (r : Result A E) → IfOk r P → OnOk r W → IfOk r Q
IfOk-both P Q W follows (Ok x) h w = follows x h w
IfOk-both P Q W follows (Err e) h w = tt
