-- The decision of a search over the clauses of the marked rules.
use Rattle.std.proofs.Common.{◌≡◌, ℕ, zero, suc, ◌<◌, ◌≤◌, ◌⊎◌, inl, inr, List, [], ◌∷◌, length, get_or, arith, refl, sym, ◌∙◌, subst, Bool, true}
use Rattle.std.proofs.Common.{false, Contains, All, Any, ⊎_elim, Option, Some, None}
use Rattle.std.specs.Bool.{beq}
use Rattle.std.specs.List.{slice_index_or}
use Rattle.std.specs.Option.{option_map, option_map_or}
use Rattle.std.proofs.lemmas.Bool.{cases_Bool, cases_lt, false≢true}
use Rattle.std.proofs.lemmas.List.{get_or_default}
use Rattle.std.proofs.lemmas.List.Elements.{All-cons, All-contains, All-head, All-map, All-nil, All-tail}
use Rattle.resolver_clause_store.specs.Formula.{AreBelow, IsBelow, MakesTrue, clause_at, clause_true, literal_true}
use Rattle.resolver_clause_store.specs.Outcomes.{IsCore, IsFinished, IsMet, IsPropagated}
use Rattle.resolver_clause_store.specs.Rules.{IsRefuted}
use Rattle.resolver_clause_store.specs.TrailView.{literal_value, slot_of}
use Rattle.resolver_clause_store.specs.Literals.{Literal}
use Rattle.resolver_clause_store.specs.declared.RequirementClause.{RequirementClause}
use Rattle.resolver_clause_store.specs.declared.Rule.{Rule}
use Rattle.resolver_clause_store.specs.declared.Slot.{Slot}
use Rattle.resolver_clause_store.specs.declared.Trail.{Trail}
use Rattle.resolver_clause_store.proofs.FormulaLemmas.{clause_at-past, false-contains}
use Rattle.resolvo.specs.MarkedClauses.{AreMarkedClauses, AreMarksOf}
use Rattle.resolvo.specs.ClauseSearches.{IsRootTurn, KeepsTurn, numbers_of}
use Rattle.resolvo.specs.declared.clause_search.ClauseSearch.{ClauseSearch}
use Rattle.resolvo.specs.Minimal.{AreAmong, IsRefutedPart, only_marked}
use Rattle.resolvo.specs.RuleClauses.{DecideRules, IsGuarded, MakesMarkedTrue}
use Rattle.resolver_clause_store.proofs.ListLemmas.{Contains-here as first_in}
use Rattle.resolvo.specs.declared.minimal.rule_clauses.RuleClause.{RuleClause}
use Rattle.resolver_encoding.specs.Trails.{value_of}

abbrev value_in : Option Slot → Literal → Option Bool
value_in slot literal = option_map (λ (slot : Slot). beq slot.value literal.positive) slot

abbrev read_in : Option Slot → Bool
read_in slot = option_map_or (λ (slot : Slot). slot.value) slot false

true_in : (slot : Option Slot) (literal : Literal) → value_in slot literal ≡ Some true → beq (read_in slot) literal.positive ≡ true
true_in None literal is = absurd cc
true_in (Some slot) literal is = cc

open_in : (slot : Option Slot) (literal : Literal) → value_in slot literal ≡ None → literal.positive ≡ false → beq (read_in slot) literal.positive ≡ true
open_in None literal is negative = rw negative refl
open_in (Some slot) literal is negative = absurd cc

literal_true_on : (trail : Trail) (literal : Literal) → literal_value trail literal ≡ Some true → literal_true (value_of trail) literal ≡ true
literal_true_on trail literal is = true_in (slot_of trail literal.variable) literal is

negation_open_on : (trail : Trail) (literal : Literal) → literal_value trail literal ≡ None → literal.positive ≡ false →
    literal_true (value_of trail) literal ≡ true
negation_open_on trail literal is negative = open_in (slot_of trail literal.variable) literal is negative

-- a clause with a true literal is true
one_true : (values : ℕ → Bool) (clause : List Literal) (literal : Literal) → Contains clause literal → literal_true values literal ≡ true →
    clause_true values clause ≡ true
one_true values clause literal inside is = ⊎_elim
    (λ (is_true : clause_true values clause ≡ true). is_true)
    (λ (is_false : clause_true values clause ≡ false). absurd (false≢true (sym (false-contains values clause literal is_false inside) ∙ is)))
    (cases_Bool (clause_true values clause))

-- the cases of a value
value_cases : {X : Type 0} (value : Option Bool) → (value ≡ None → X) → (value ≡ Some true → X) → (value ≡ Some false → X) → X
value_cases None is_open is_true is_false = is_open refl
value_cases (Some true) is_open is_true is_false = is_true refl
value_cases (Some false) is_open is_true is_false = is_false refl

met_true : (trail : Trail) (clause : List Literal) → IsMet trail clause → clause_true (value_of trail) clause ≡ true
met_true trail clause met = ⊎_elim
    (λ (one : Any (λ (literal : Literal). literal_value trail literal ≡ Some true) clause).
    one_true (value_of trail) clause one.1 (one.0, one.2, one.3) (literal_true_on trail one.1 one.4))
    (λ (one : Any (λ (literal : Literal). (literal_value trail literal ≡ None) × (literal.positive ≡ false)) clause).
    one_true (value_of trail) clause one.1 (one.0, one.2, one.3) (negation_open_on trail one.1 one.4.0 one.4.1))
    met

abbrev second_in : {X : Type 0} (x y : X) (xs : List X) → Contains (x ∷ y ∷ xs) y
second_in x y xs = (1, omega arith, refl)

guarded_true : (trail : Trail) (clause : List Literal) → IsGuarded clause → IsPropagated trail clause → clause_true (value_of trail) clause ≡ true
guarded_true trail [] guarded propagated = absurd guarded
guarded_true trail (first ∷ []) guarded propagated = value_cases (literal_value trail first)
    (λ is_open. one_true (value_of trail) (first ∷ []) first (first_in first []) (negation_open_on trail first is_open guarded))
    (λ is_true. one_true (value_of trail) (first ∷ []) first (first_in first []) (literal_true_on trail first is_true))
    (λ is_false. absurd (propagated.not_false (All-cons (λ (literal : Literal). literal_value trail literal ≡ Some false) first [] is_false (All-nil _))))
guarded_true trail (first ∷ second ∷ []) guarded propagated = value_cases (literal_value trail first)
    (λ is_open. one_true (value_of trail) (first ∷ second ∷ []) first (first_in first (second ∷ [])) (negation_open_on trail first is_open guarded))
    (λ is_true. one_true (value_of trail) (first ∷ second ∷ []) first (first_in first (second ∷ [])) (literal_true_on trail first is_true))
    (λ is_false. one_true (value_of trail) (first ∷ second ∷ []) second (second_in first second [])
    (literal_true_on trail second (propagated.last second (second_in first second []) (λ other inside. of_two is_false other inside))))
  where
    of_two : literal_value trail first ≡ Some false → (other : Literal) → Contains (first ∷ second ∷ []) other → (other ≡ second) ⊎
        (literal_value trail other ≡ Some false)
    of_two is_false other (zero, below, is) = let P : Literal → Type 0 = λ l. literal_value trail l ≡ Some false in inr (subst P is is_false)
    of_two is_false other (suc zero, below, is) = inl (sym is)
    of_two is_false other (suc (suc k), below, is) = absurd (omega (arith, below))
guarded_true trail (first ∷ second ∷ third ∷ rest) guarded propagated = absurd guarded

-- each number of a list of requirements
named : (P : ℕ → Type 0) (requirements : List RequirementClause) → All (λ (requirement : RequirementClause). P requirement.number) requirements →
    All P (numbers_of requirements)
named P requirements all = All-map P (λ (requirement : RequirementClause). requirement.number) requirements all

-- a search that ended with values makes the clauses of the marked rules true
pub finished_true : (marks : List Bool) (from : List RuleClause) (clauses : List (List Literal)) (places : List ℕ) (requirements : List RequirementClause)
    (trail : Trail) → AreMarkedClauses marks from clauses places (numbers_of requirements) →
    All (λ (clause : RuleClause). clause.is_requirement ≡ false → IsGuarded clause.literals.items) from → IsFinished clauses requirements trail →
    MakesMarkedTrue (value_of trail) marks from
finished_true marks from clauses places requirements trail are guarded finished = λ k d below marked_one.
    let clause : RuleClause = get_or from k d in
    let there = are.all k d below marked_one in
    let P : List Literal → Type 0 = λ literals. clause_true (value_of trail) literals ≡ true in
    subst P there.literals (⊎_elim
    (λ (is_requirement : clause.is_requirement ≡ true). met_true trail (clause_at clauses there.number)
    (All-contains (λ number. IsMet trail (clause_at clauses number)) (numbers_of requirements) there.number
    (named (λ number. IsMet trail (clause_at clauses number)) requirements finished.met) (there.listed is_requirement)))
    (λ (plain : clause.is_requirement ≡ false). let Q : List Literal → Type 0 = IsGuarded in
    guarded_true trail (clause_at clauses there.number) (subst Q (sym there.literals) (guarded k d below plain))
    (finished.propagated there.number there.inside))
    (cases_Bool clause.is_requirement))

pub obeyed : {N S : Type 0} (rules : List (Rule N S)) (variables : ℕ) (marks : List Bool) (from : List RuleClause) (clauses : List (List Literal))
    (places : List ℕ) (requirements : List RequirementClause) (trail : Trail) → length marks ≡ length rules → DecideRules rules variables from →
    AreMarkedClauses marks from clauses places (numbers_of requirements) → IsFinished clauses requirements trail → IsRefuted (only_marked marks rules) → ⊥
obeyed rules variables marks from clauses places requirements trail size decide are finished =
    decide.complete marks (value_of trail) size (finished_true marks from clauses places requirements trail are decide.guarded finished)

module _ {N S : Type 0} (rules : List (Rule N S)) (variables : ℕ) (marks part : List Bool) (from : List RuleClause) (clauses : List (List Literal))
    (places numbers core : List ℕ) (decide : DecideRules rules variables from) (are : AreMarkedClauses marks from clauses places numbers)
    (is_core : IsCore clauses core) (of : AreMarksOf places core (length rules) part) where
  core_among : AreAmong part marks
  core_among k m =
      let w = of.only k m in
      let it = are.each w.0 (All-contains (λ number. number < length clauses) core w.0 is_core.within w.1) in
      let P : ℕ → Type 0 = λ place. slice_index_or marks place false ≡ true in
      subst P (sym it.place ∙ w.2) it.marked

  true_there : (values : ℕ → Bool) → MakesMarkedTrue values part from → MakesTrue values clauses core
  true_there values all = λ k d below.
      let number : ℕ = get_or core k d in
      let it = are.each number (is_core.within k d below) in
      let P : ℕ → Type 0 = λ place. slice_index_or part place false ≡ true in
      let Q : List Literal → Type 0 = λ literals. clause_true values literals ≡ true in
      subst Q (sym it.literals) (All-contains (λ (clause : RuleClause).
      slice_index_or part clause.rule false ≡ true → clause_true values clause.literals.items ≡ true) from it.clause all it.among
      (subst P it.place (of.all k d below)))

  pub core_refuted : IsRefutedPart rules marks part
  core_refuted = record {
    size = of.size;
    among = core_among;
    refuted = λ set obeys. let w = decide.sound part set of.size obeys in is_core.refuted w.0 (true_there w.0 w.1);
  }

-- the rules of the marked clauses are among the rules
pub places_inside : {N S : Type 0} (rules : List (Rule N S)) (variables : ℕ) (marks : List Bool) (from : List RuleClause) (clauses : List (List Literal))
    (places numbers : List ℕ) → DecideRules rules variables from → AreMarkedClauses marks from clauses places numbers →
    All (λ place. place < length rules) places
places_inside rules variables marks from clauses places numbers decide are = λ k d below.
    let it = are.each k (omega (arith, below, are.size)) in
    let same : get_or places k d ≡ it.clause.rule = get_or_default places k d 0 below ∙ it.place in
    let small : it.clause.rule < length rules = All-contains (λ (clause : RuleClause). clause.rule < length rules) from it.clause decide.places it.among in
    omega (arith, same, small)

-- the variables of the marked clauses are among all variables
pub marked_below : {N S : Type 0} (rules : List (Rule N S)) (variables : ℕ) (marks : List Bool) (from : List RuleClause) (clauses : List (List Literal))
    (places numbers : List ℕ) → DecideRules rules variables from → AreMarkedClauses marks from clauses places numbers → AreBelow variables clauses
marked_below rules variables marks from clauses places numbers decide are = λ number. ⊎_elim
    (λ (inside : number < length clauses).
    let it = are.each number inside in
    let P : List Literal → Type 0 = λ literals. IsBelow variables literals in
    subst P (sym it.literals) (All-contains (λ (clause : RuleClause). IsBelow variables clause.literals.items) from it.clause decide.below it.among))
    (λ (past : length clauses ≤ number).
    let P : List Literal → Type 0 = λ literals. IsBelow variables literals in
    subst P (sym (clause_at-past clauses number past)) (All-nil _))
    (cases_lt number (length clauses))

pub requirements_inside : (count : ℕ) (requirements : List RequirementClause) → All (λ number. number < count) (numbers_of requirements) →
    All (λ (requirement : RequirementClause). requirement.number < count) requirements
requirements_inside count [] all = All-nil _
requirements_inside count (r ∷ rest) all =
    All-cons (λ (requirement : RequirementClause). requirement.number < count) r rest
    (All-head (λ number. number < count) r.number (numbers_of rest) all)
    (requirements_inside count rest (All-tail (λ number. number < count) r.number (numbers_of rest) all))

-- nothing is assumed in a later state of the turn of the root
pub still_root : (old new : ClauseSearch) → IsRootTurn old → KeepsTurn old new → IsRootTurn new
still_root old new root keeps = record {
  base = keeps.base ∙ root.base;
  none = λ variable slot is assumed. root.none variable slot (keeps.assumed.was variable slot is assumed) assumed;
}
