-- Tables of conditions.
use Rattle.std.specs.Prelude.{◌≡◌, ◌++◌, ◌∷◌, [], ℕ, ◌<◌, List, MatchOption, Option, Some, None, length, slice_get}
use Rattle.resolver_clause_store.specs.declared.ids.ConditionId.{ConditionId}
use Rattle.resolver_clause_store.specs.declared.data.LogicalOperator.{LogicalOperator}
use Rattle.resolver_clause_store.specs.declared.data.Condition.{Condition}
use Rattle.resolver_clause_store.specs.declared.data.Condition.TheVariants.{Requirement, Binary}

-- the condition; if there is none, a condition on the first version set
abbrev pub condition_or_first : Option Condition → Condition
condition_or_first None = Requirement (record { 0 = 0 })
condition_or_first (Some c) = c

abbrev pub condition_at : List Condition → ConditionId → Condition
condition_at conditions i = condition_or_first (slice_get conditions i.0)

-- both parts of a condition come before it in the table
abbrev pub ArePartsLower : List Condition → Type 0
ArePartsLower conditions = (i : ℕ) (op : LogicalOperator) (a b : ConditionId) → slice_get conditions i ≡ Some (Binary op a b) → (a.0 < i) × (b.0 < i)

-- both parts are in the table, and their joint condition was appended
pub record IsJoined (conditions conditions' : List Condition) (operator : LogicalOperator) (left right id : ConditionId) : Type 0 where
  pub left_stands : left.0 < length conditions
  pub right_stands : right.0 < length conditions
  pub last : id.0 ≡ length conditions
  pub added : conditions' ≡ conditions ++ Binary operator left right ∷ []

-- a part is not in the table, and nothing changed
pub record IsPartMissing (conditions conditions' : List Condition) (left right : ConditionId) : Type 0 where
  pub missing : left.0 < length conditions → right.0 < length conditions → ⊥
  pub kept : conditions' ≡ conditions

-- the parts were joined, or one of them is missing
abbrev pub JoinsParts : (conditions conditions' : List Condition) → LogicalOperator → (left right : ConditionId) → Option ConditionId → Type 0
JoinsParts old new operator left right made = MatchOption made (IsPartMissing old new left right) (IsJoined old new operator left right)
