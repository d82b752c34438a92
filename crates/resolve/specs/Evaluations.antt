-- Conditions made from steps in postfix order, by a stack.
use Rattle.std.specs.Prelude.{◌≡◌, ◌<◌, List, [], ◌∷◌, ◌++◌, MatchOption, Option, length}
use Rattle.resolver_clause_store.specs.declared.ids.ConditionId.{ConditionId}
use Rattle.resolver_clause_store.specs.declared.data.Condition.TheVariants.{Binary}
use Rattle.resolver_clause_store.specs.declared.data.LogicalOperator.{LogicalOperator}
use Rattle.resolver_clause_store.specs.declared.data.LogicalOperator.TheVariants.{And, Or}
use Rattle.resolve.specs.Catalogs.{Tables}
use Rattle.resolve.specs.Guards.{GuardStep, on_step, and_step, or_step}
use Rattle.resolve.specs.Meaning.{last_condition, with_guard}
use Rattle.resolve.specs.Said.{on}

-- the tables, and the conditions that are set aside, the last one on top
pub record Evaluated : Type 0 where
  pub tables : Tables
  pub aside : List ConditionId

abbrev pub evaluated : Tables → List ConditionId → Evaluated
evaluated t aside = record { tables = t; aside = aside }

-- the last condition of the tables is set aside
abbrev pub pushed : Tables → List ConditionId → Evaluated
pushed t aside = evaluated t (aside ++ last_condition t ∷ [])

-- the two topmost conditions were joined
pub record Joins (operator : LogicalOperator) (before after : Evaluated) : Type 0 where
  pub below : List ConditionId
  pub left : ConditionId
  pub right : ConditionId
  pub stack : before.aside ≡ below ++ left ∷ right ∷ []
  pub left_stands : left.0 < length before.tables.conditions
  pub right_stands : right.0 < length before.tables.conditions
  pub is : after ≡ pushed (record before.tables { conditions = before.tables.conditions ++ Binary operator left right ∷ [] }) below

-- what one step makes of it
abbrev pub Evaluates : GuardStep → Evaluated → Evaluated → Type 0
Evaluates (on_step wanted) before after = after ≡ pushed (with_guard before.tables (on wanted)) before.aside
Evaluates and_step before after = Joins And before after
Evaluates or_step before after = Joins Or before after

-- there is a condition for whatever the step leads to, and it is still to be set aside
abbrev pub Makes : (Evaluated → Evaluated → Type 0) → Evaluated → Tables → List ConditionId → Option ConditionId → Type 0
Makes Leads before t aside made = (after : Evaluated) → Leads before after → MatchOption made ⊥ (λ id. after ≡ evaluated t (aside ++ id ∷ []))
