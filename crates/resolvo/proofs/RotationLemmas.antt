-- Values that make the clauses of all rules but one true, clause by clause and turn by turn.
use Rattle.std.proofs.Common.{◌≡◌, ◌≢◌, ℕ, suc, ◌+◌, ◌<◌, ◌≤◌, List, [], ◌∷◌, ◌++◌, length, get_or, replicate, set, sym, ap, ◌∙◌, subst}
use Rattle.std.proofs.Common.{length-append, get_or-set_other, Bool, true, false, ⊎_elim}
use Rattle.std.specs.Prelude.{Option, Some, None, IfSome, IsSome}
use Rattle.std.proofs.lemmas.Bool.{cases_eq, cases_lt, false≢true}
use Rattle.std.proofs.lemmas.List.{get_or_append_left, get_or_past, get_or_default, get_or-replicate, length-replicate}
use Rattle.resolver_clause_store.specs.Rules.{IsRefuted}
use Rattle.resolver_clause_store.specs.declared.Rule.{Rule}
use Rattle.resolvo.proofs.MinimalLemmas.{others_at, others_before}
use Rattle.resolvo.specs.Minimal.{only_marked, others_of}
use Rattle.resolvo.specs.RuleClauses.{DecideRules}
use Rattle.resolvo.specs.Rotations.{AreNeeded, IsStillThere, MakesOthersTrue}
use Rattle.resolvo.specs.declared.minimal.rule_clauses.RuleClause.{RuleClause}
use Rattle.resolvo.specs.declared.minimal.rule_clauses.RuleClauses.{RuleClauses}

-- one more rule is marked
pub needed_mark : (clauses : List RuleClause) (kept needed : List Bool) (rule : ℕ) (values : ℕ → Bool) → rule < length needed →
    MakesOthersTrue values kept rule clauses → AreNeeded clauses kept needed → AreNeeded clauses kept (set needed rule true)
needed_mark clauses kept needed rule values below makes all place marked = ⊎_elim
    (λ (same : place ≡ rule). let P : ℕ → Type 0 = λ p. MakesOthersTrue values kept p clauses in (values, subst P (sym same) makes))
    (λ (other : place ≢ rule). all place (sym (get_or-set_other needed rule place true false other) ∙ marked))
    (cases_eq place rule)

-- a rule that remains after a turn remained before
still_before : (kept : List Bool) (b : Bool) (rule : ℕ) → IsStillThere (kept ++ b ∷ []) rule → IsStillThere kept rule
still_before kept b rule there = ⊎_elim
    (λ (before : rule < length kept). sym (get_or_append_left kept (b ∷ []) true rule before) ∙ there)
    (λ (not_before : length kept ≤ rule). get_or_past kept rule true not_before)
    (cases_lt rule (length kept))

needed_push : (clauses : List RuleClause) (kept needed : List Bool) (b : Bool) → AreNeeded clauses kept needed → AreNeeded clauses (kept ++ b ∷ []) needed
needed_push clauses kept needed b all place marked =
    let w = all place marked in (w.0, λ k d below there other. w.1 k d below (still_before kept b _ there) other)

-- one more rule had its turn
pub needed_next : (form : Option RuleClauses) (kept needed : List Bool) (b : Bool) → IfSome form (λ form. AreNeeded form.clauses.items kept needed) →
    IfSome form (λ form. AreNeeded form.clauses.items (kept ++ b ∷ []) needed)
needed_next None kept needed b all = tt
needed_next (Some form) kept needed b all = needed_push form.clauses.items kept needed b all

-- no rule is marked before the first search
pub needed_none : (form : Option RuleClauses) (kept needed : List Bool) (count : ℕ) → needed ≡ replicate count false →
    IfSome form (λ form. AreNeeded form.clauses.items kept needed)
needed_none None kept needed count are = tt
needed_none (Some form) kept needed count are = λ place marked. absurd (false≢true (sym (off place) ∙ (sym (ap (λ xs. get_or xs place false) are) ∙ marked)))
  where
    off : (place : ℕ) → get_or (replicate count false) place false ≡ false
    off place = ⊎_elim
        (λ (less : place < count). get_or-replicate count place false false less)
        (λ (more : count ≤ place). get_or_past (replicate count false) place false (rw length-replicate more))
        (cases_lt place count)

module _ {N S : Type 0} (rules : List (Rule N S)) (kept needed : List Bool) (spare : ℕ) (fit : length rules ≡ length kept + suc spare)
    (marked_it : get_or needed (length kept) false ≡ true) where
  size : length (others_of kept spare) ≡ length rules
  size = length-append kept (false ∷ replicate spare true) ∙ (ap (λ n. length kept + suc n) (length-replicate spare true) ∙ sym fit)

  there : (rule : ℕ) → get_or (others_of kept spare) rule false ≡ true → IsStillThere kept rule
  there rule mark = ⊎_elim
      (λ (before : rule < length kept). get_or_default kept rule true false before ∙ (sym (others_before kept spare rule before) ∙ mark))
      (λ (not_before : length kept ≤ rule). get_or_past kept rule true not_before)
      (cases_lt rule (length kept))

  other_one : (rule : ℕ) → get_or (others_of kept spare) rule false ≡ true → rule ≢ length kept
  other_one rule mark same = let P : ℕ → Type 0 = λ r. get_or (others_of kept spare) r false ≡ true in
      false≢true (sym (others_at kept spare) ∙ subst P same mark)

  needed_by : (variables : ℕ) (clauses : List RuleClause) → DecideRules rules variables clauses → AreNeeded clauses kept needed →
      IsRefuted (only_marked (others_of kept spare) rules) → ⊥
  needed_by variables clauses decide all = let w = all (length kept) marked_it in
      decide.complete (others_of kept spare) w.0 size (λ k d below mark. w.1 k d below (there _ mark) (other_one _ mark))

  -- a marked rule is needed
  pub marked_needed : (form : Option RuleClauses) → IsSome form → IfSome form (λ form. DecideRules rules form.variables form.clauses.items) →
      IfSome form (λ form. AreNeeded form.clauses.items kept needed) → IsRefuted (only_marked (others_of kept spare) rules) → ⊥
  marked_needed None some decide all = absurd (false≢true some)
  marked_needed (Some form) some decide all = needed_by form.variables form.clauses.items decide all
