-- Values that make the clauses of all rules except one true.
use Rattle.std.specs.Prelude.{◌≡◌, ◌≢◌, ℕ, Bool, true, false, IfSome, List, All, Option, Some, None, length}
use Rattle.std.specs.List.{slice_index_or}
use Rattle.resolver_clause_store.specs.Formula.{clause_true}
use Rattle.resolver_clause_store.specs.declared.Rule.{Rule}
use Rattle.resolvo.specs.Minimal.{IsUnderway}
use Rattle.resolvo.specs.declared.minimal.Turns.{Turns}
use Rattle.resolvo.specs.declared.minimal.rule_clauses.RuleClause.{RuleClause}
use Rattle.resolvo.specs.declared.minimal.rule_clauses.RuleClauses.{RuleClauses}

-- the value of each variable; a variable without one is false
abbrev pub value_at : List Bool → ℕ → Bool
value_at values variable = slice_index_or values variable false

-- the rule remains: it was kept, or its turn is still to come
abbrev pub IsStillThere : List Bool → ℕ → Type 0
IsStillThere kept rule = slice_index_or kept rule true ≡ true

-- the values make the clauses of all remaining rules true, except perhaps those of one rule
abbrev pub MakesOthersTrue : (ℕ → Bool) → List Bool → ℕ → List RuleClause → Type 0
MakesOthersTrue values kept rule clauses =
    All (λ (clause : RuleClause). IsStillThere kept clause.rule → clause.rule ≢ rule → clause_true values clause.literals.items ≡ true) clauses

-- the only remaining rule with a clause that the values make false, or `None` if they make none false
abbrev pub BrokenIs : (ℕ → Bool) → List Bool → List RuleClause → Option ℕ → Type 0
BrokenIs values kept clauses None = All (λ (clause : RuleClause). IsStillThere kept clause.rule → clause_true values clause.literals.items ≡ true) clauses
BrokenIs values kept clauses (Some rule) = MakesOthersTrue values kept rule clauses

-- for each rule with a `needed` mark, some values make the clauses of all other remaining rules true
abbrev pub AreNeeded : List RuleClause → List Bool → List Bool → Type 0
AreNeeded clauses kept needed = (rule : ℕ) → slice_index_or needed rule false ≡ true → (values : ℕ → Bool) × MakesOthersTrue values kept rule clauses

-- The state between two turns. If the rules have clauses, the marks of needed rules are right.
pub record AreUnderway {N S : Type 0} (rules : List (Rule N S)) (form : Option RuleClauses) (turns : Turns) : Type 0 where
  pub underway : IsUnderway rules turns.kept.items turns.core.items
  pub size : length turns.needed.items ≡ length rules
  pub needed : IfSome form (λ form. AreNeeded form.clauses.items turns.kept.items turns.needed.items)
