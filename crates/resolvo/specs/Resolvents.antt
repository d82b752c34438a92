-- Marked variables whose values contradict clauses.
use Rattle.std.specs.Prelude.{◌≡◌, ◌≢◌, ℕ, ◌-◌, ◌<◌, ◌≤◌, ◌⊎◌, Bool, true, false, not, Contains, Some, List, [], length, All, Any, slice_index_or, slice_set}
use Rattle.std.specs.Bool.{beq}
use Rattle.std.specs.Option.{option_map_or}
use Rattle.resolver_clause_store.specs.Literals.{Literal}
use Rattle.resolver_clause_store.specs.declared.Slot.{Slot}
use Rattle.resolver_clause_store.specs.declared.Reason.TheVariants.{Forced}
use Rattle.resolver_clause_store.specs.declared.Trail.{Trail}
use Rattle.resolver_clause_store.specs.Formula.{AreBelow, MakesTrue, FollowsFrom, clause_at}
use Rattle.resolver_clause_store.specs.Outcomes.{IsFalsified}
use Rattle.resolver_clause_store.specs.TrailView.{length_of, literal_value, place_of, slot_of, variable_at, variable_count}
use Rattle.resolvo.specs.Propagation.{IsJustified}
use Rattle.resolvo.specs.declared.learn.resolve.Resolvent.{Resolvent}
use Rattle.resolvo.specs.declared.learn.clause.Learnt.{Learnt}
use Rattle.resolvo.specs.declared.learn.Analysis.{Analysis}
use Rattle.resolvo.specs.declared.learn.Analysis.TheVariants.{Contradiction, Clause}

-- whether a number is marked
abbrev pub is_marked : List Bool → ℕ → Bool
is_marked marks number = slice_index_or marks number false

-- the variables of the clause are marked in addition to the old ones, and no others
pub record MarksAlso (old new : List Bool) (clause : List Literal) : Type 0 where
  pub size : length new ≡ length old
  pub kept : (variable : ℕ) → is_marked old variable ≡ true → is_marked new variable ≡ true
  pub all : All (λ (literal : Literal). is_marked new literal.variable ≡ true) clause
  pub only : (variable : ℕ) → is_marked old variable ≡ false → All (λ (literal : Literal). literal.variable ≢ variable) clause → is_marked new variable ≡ false

-- the other variables of the clause are marked in place of this one
abbrev pub IsReplaced : List Bool → List Bool → ℕ → List Literal → Type 0
IsReplaced old new variable clause = (mid : List Bool) × MarksAlso old mid clause × (new ≡ slice_set mid variable false)

-- each marked variable is listed, and each listed number is that of a variable
pub record ListsMarks (marks : List Bool) (marked : List ℕ) : Type 0 where
  pub within : All (λ variable. variable < length marks) marked
  pub all : (variable : ℕ) → is_marked marks variable ≡ true → Contains marked variable

-- nothing is marked
abbrev pub IsUnmarked : List Bool → Type 0
IsUnmarked marks = (variable : ℕ) → is_marked marks variable ≡ false

-- at the marked variables, the values are those of the trail
abbrev pub AgreesOn : (ℕ → Bool) → Trail → List Bool → Type 0
AgreesOn values trail marks =
    (variable : ℕ) (slot : Slot) → is_marked marks variable ≡ true → slot_of trail variable ≡ Some slot → values variable ≡ slot.value

-- no values make the causes true and are those of the trail at the marked variables
pub record Refutes (table : List (List Literal)) (trail : Trail) (marks : List Bool) (causes : List ℕ) : Type 0 where
  pub apart : (values : ℕ → Bool) → MakesTrue values table causes → AgreesOn values trail marks → ⊥

-- the literal is in a clause with one of these numbers
pub record IsDrawn (table : List (List Literal)) (numbers : List ℕ) (literal : Literal) : Type 0 where
  pub number : ℕ
  pub listed : Contains numbers number
  pub stands : Contains (clause_at table number) literal

-- for each marked variable, the literal that is false on the trail is in one of the causes
pub record AreDrawn (table : List (List Literal)) (trail : Trail) (marks : List Bool) (causes : List ℕ) : Type 0 where
  pub each : (variable : ℕ) (slot : Slot) → is_marked marks variable ≡ true → slot_of trail variable ≡ Some slot →
      IsDrawn table causes (record { variable = variable; positive = not slot.value })

-- What is known between two steps of an analysis: the marked variables' values contradict the causes, which are clauses of the table.
pub record IsResolvent (table : List (List Literal)) (trail : Trail) (resolvent : Resolvent) : Type 0 where
  pub below : AreBelow (variable_count trail) table
  pub justified : IsJustified table trail
  pub size : length resolvent.marks.items ≡ variable_count trail
  pub listed : ListsMarks resolvent.marks.items resolvent.marked.items
  pub within : All (λ number. number < length table) resolvent.causes.items
  pub refutes : Refutes table trail resolvent.marks.items resolvent.causes.items
  pub drawn : AreDrawn table trail resolvent.marks.items resolvent.causes.items

-- no marked variable is of a higher level, and none of this level is at a lower place than `lowest`
pub record AreAtMost (trail : Trail) (marks : List Bool) (level lowest : ℕ) : Type 0 where
  pub top : (variable : ℕ) (slot : Slot) → is_marked marks variable ≡ true → slot_of trail variable ≡ Some slot → slot.level ≤ level
  pub least : (variable : ℕ) (slot : Slot) → is_marked marks variable ≡ true → slot_of trail variable ≡ Some slot → slot.level ≡ level → lowest ≤ slot.place

-- the level of a variable, or 0 if it has no value
abbrev pub level_in : Trail → ℕ → ℕ
level_in trail variable = option_map_or (λ (slot : Slot). slot.level) (slot_of trail variable) 0

-- if the variable has a value of this level, it is not before this place
abbrev pub IsNotBefore : Trail → ℕ → ℕ → ℕ → Type 0
IsNotBefore trail level place variable = (slot : Slot) → slot_of trail variable ≡ Some slot → slot.level ≡ level → place ≤ slot.place

-- the variable has a value of this level at this place
pub record StandsAt (trail : Trail) (level place variable : ℕ) : Type 0 where
  pub slot : Slot
  pub is : slot_of trail variable ≡ Some slot
  pub level_is : slot.level ≡ level
  pub place_is : slot.place ≡ place

-- a marked variable of this level is at this place
pub record HasMark (trail : Trail) (marks : List Bool) (level place : ℕ) : Type 0 where
  pub variable : ℕ
  pub marked : is_marked marks variable ≡ true
  pub stands : StandsAt trail level place variable

-- each marked variable is before this place
pub record AllBefore (trail : Trail) (marks : List Bool) (place : ℕ) : Type 0 where
  pub before : (variable : ℕ) (slot : Slot) → is_marked marks variable ≡ true → slot_of trail variable ≡ Some slot → slot.place < place

-- one marked variable is of this level, and the others are of lower levels
pub record IsSingle (trail : Trail) (marks : List Bool) (level variable : ℕ) : Type 0 where
  pub slot : Slot
  pub is : slot_of trail variable ≡ Some slot
  pub marked : is_marked marks variable ≡ true
  pub level_is : slot.level ≡ level
  pub others : (other : ℕ) (t : Slot) → is_marked marks other ≡ true → slot_of trail other ≡ Some t → other ≢ variable → t.level < level

-- the levels and places of the marked variables, all of which are before this place
pub record IsLevelled (trail : Trail) (resolvent : Resolvent) (place : ℕ) : Type 0 where
  pub at_most : AreAtMost trail resolvent.marks.items resolvent.level resolvent.lowest
  pub before : AllBefore trail resolvent.marks.items place
  pub mark : 0 < resolvent.level → HasMark trail resolvent.marks.items resolvent.level resolvent.lowest

-- the first unique implication point: one marked variable is of the highest level; at level 0 none is left
pub record IsResolved (table : List (List Literal)) (trail : Trail) (it : Resolvent) : Type 0 where
  pub resolvent : IsResolvent table trail it
  pub inside : 0 < it.level → it.lowest < length_of trail
  pub single : 0 < it.level → IsSingle trail it.marks.items it.level (variable_at trail it.lowest)
  pub none : it.level ≡ 0 → AllBefore trail it.marks.items 0

-- the clause with this number forced the variable
pub record IsReason (trail : Trail) (variable number : ℕ) : Type 0 where
  pub slot : Slot
  pub is : slot_of trail variable ≡ Some slot
  pub reason : slot.reason ≡ Forced number

-- the literal is the true one of the variable, or is of another variable and false
abbrev pub IsOwnOrFalse : Trail → ℕ → Literal → Type 0
IsOwnOrFalse trail variable literal =
    ((literal.variable ≡ variable) × (literal_value trail literal ≡ Some true)) ⊎
    ((literal.variable ≢ variable) × (literal_value trail literal ≡ Some false))

-- the clause implies the variable's value: its literals of other variables are false
abbrev pub ImpliesValue : Trail → List Literal → ℕ → Type 0
ImpliesValue trail clause variable = All (IsOwnOrFalse trail variable) clause

-- the literals are false under the trail, one for each marked variable that has a value
pub record Negates (trail : Trail) (marks : List Bool) (literals : List Literal) : Type 0 where
  pub falsified : IsFalsified trail literals
  pub only : All (λ (literal : Literal). is_marked marks literal.variable ≡ true) literals
  pub each : (variable : ℕ) (slot : Slot) → is_marked marks variable ≡ true → slot_of trail variable ≡ Some slot →
      Contains literals (record { variable = variable; positive = not slot.value })

-- if the variable is marked and has a value, its literal that is false is appended
pub record AddsNegation (trail : Trail) (marks : List Bool) (variable : ℕ) (old new : List Literal) : Type 0 where
  pub kept : (literal : Literal) → Contains old literal → Contains new literal
  pub falsified : IsFalsified trail old → IsFalsified trail new
  pub only : All (λ (literal : Literal). is_marked marks literal.variable ≡ true) old → All (λ (literal : Literal). is_marked marks literal.variable ≡ true) new
  pub added : (slot : Slot) → is_marked marks variable ≡ true → slot_of trail variable ≡ Some slot →
      Contains new (record { variable = variable; positive = not slot.value })

-- the number of places on the trail from that of the literal's variable on
abbrev pub age_in : Trail → Literal → ℕ
age_in trail literal = length_of trail - place_of trail literal.variable

-- the literal is false, and is so at this level or a lower one
pub record IsFalseAt (trail : Trail) (level : ℕ) (literal : Literal) : Type 0 where
  pub slot : Slot
  pub is : slot_of trail literal.variable ≡ Some slot
  pub false_there : beq slot.value literal.positive ≡ false
  pub low : slot.level ≤ level

-- the asserting literal: it is of a level above `backtrack_level`, which is the highest level of the other literals, or 0
pub record IsAsserting (trail : Trail) (backtrack_level : ℕ) (literal : Literal) (literals : List Literal) : Type 0 where
  pub contains : Contains literals literal
  pub slot : Slot
  pub is : slot_of trail literal.variable ≡ Some slot
  pub above : backtrack_level < slot.level
  pub others : All (λ (other : Literal). (other ≡ literal) ⊎ IsFalseAt trail backtrack_level other) literals
  pub reached : (backtrack_level ≡ 0) ⊎ Any (λ (other : Literal). (other ≢ literal) × (level_in trail other.variable ≡ backtrack_level)) literals

-- the learnt clause follows from its causes, has only literals of theirs, is false under the trail, and has only one literal of its highest level
pub record IsLearnt (table : List (List Literal)) (trail : Trail) (learnt : Learnt) : Type 0 where
  pub within : All (λ number. number < length table) learnt.causes.items
  pub follows : FollowsFrom table learnt.causes.items learnt.literals.items
  pub drawn : All (IsDrawn table learnt.causes.items) learnt.literals.items
  pub falsified : IsFalsified trail learnt.literals.items
  pub asserting : IsAsserting trail learnt.backtrack_level learnt.literal learnt.literals.items

-- an unsatisfiable core of the table, or a clause that follows from some of its clauses
abbrev pub AnalysisIs : List (List Literal) → Trail → Analysis → Type 0
AnalysisIs table trail (Contradiction causes) = All (λ number. number < length table) causes.items × FollowsFrom table causes.items []
AnalysisIs table trail (Clause learnt) = IsLearnt table trail learnt
