-- What each step of building the clauses of rules adds.
use Rattle.std.specs.Prelude.{◌≡◌, ℕ, ◌≤◌, ◌^◌, ◌++◌, List, length}
use Rattle.std.specs.List.{AllZip}
use Rattle.resolver_clause_store.specs.Variables.{AreDistinct, Keeps}
use Rattle.resolver_clause_store.specs.declared.Rule.{Rule}
use Rattle.resolvo.specs.RuleClauses.{HasCode, IsClauseOfLine, Line}
use Rattle.resolvo.specs.declared.minimal.rule_clauses.Proposition.{Proposition}
use Rattle.resolvo.specs.declared.minimal.rule_clauses.RuleClause.{RuleClause}
use Rattle.resolvo.specs.declared.minimal.rule_clauses.RuleDraft.{RuleDraft}

-- each proposition keeps its place, and the clauses of the lines are appended
pub record AppendsLines {N S : Type 0} (old new : List (Proposition N S)) (before after : List RuleClause) (lines : List (Line N S)) : Type 0 where
  pub keeps : Keeps old new
  pub added : List RuleClause
  pub is : after ≡ before ++ added
  pub are : AllZip (IsClauseOfLine new) added lines

-- the same for a draft
abbrev pub AddsLines : {N S : Type 0} → RuleDraft N S → RuleDraft N S → List (Line N S) → Type 0
AddsLines old new lines = AppendsLines old.propositions.keys new.propositions.keys old.clauses.items new.clauses.items lines

-- codes of the rules with `width` bits, which distinguish the listed instances
pub record AreCodesOf {N S : Type 0} (rules : List (Rule N S)) (codes : List ℕ) (width : ℕ) : Type 0 where
  pub instances : List S
  pub coded : AllZip (HasCode instances) rules codes
  pub short : length instances ≤ 2 ^ width
  pub apart : AreDistinct instances
