-- The requirement that was last found left to decide.
use Rattle.std.specs.Prelude.{◌≡◌, ◌≢◌, ℕ, ◌<◌, ◌≤◌, true, false, Some, List, length, slice_index_or}
use Rattle.resolver_clause_store.specs.Literals.{Literal}
use Rattle.resolver_clause_store.specs.declared.clauses.StoredRequirement.{StoredRequirement}
use Rattle.resolver_clause_store.specs.declared.trail.Slot.{Slot}
use Rattle.resolver_clause_store.specs.declared.trail.Trail.{Trail}
use Rattle.resolver_clause_store.specs.declared.last_open.LastOpen.{LastOpen}
use Rattle.resolver_clause_store.specs.Formula.{clause_at}
use Rattle.resolver_clause_store.specs.Outcomes.{IsFalseBefore}
use Rattle.resolver_clause_store.specs.TrailView.{literal_value, slot_of, variable_at}

-- no variable at the places of the trail from this one up to but not including another is true
pub record NoneIsTrueFrom (trail : Trail) (from to : ℕ) : Type 0 where
  pub each : (place : ℕ) → from ≤ place → place < to → literal_value trail (record { variable = variable_at trail place; positive = true }) ≢ Some true

-- each literal from a place on is false
abbrev pub AreFalseFrom : Trail → List Literal → ℕ → Type 0
AreFalseFrom trail clause from = (k : ℕ) (d : Literal) → from ≤ k → k < length clause → literal_value trail (slice_index_or clause k d) ≡ Some false

-- the first literal from a place on that is not false
pub record IsFirstNotFalse (trail : Trail) (clause : List Literal) (from place : ℕ) : Type 0 where
  pub from_there : from ≤ place
  pub within : place < length clause
  pub not_false : (d : Literal) → literal_value trail (slice_index_or clause place d) ≢ Some false
  pub false_before : (k : ℕ) (d : Literal) → from ≤ k → k < place → literal_value trail (slice_index_or clause k d) ≡ Some false

-- By the first `count` entries of the trail, the literals before the first candidate are false, and so are all negative ones, and no literal is
-- true.
pub record IsOpenSince (trail : Trail) (clause : List Literal) (first count : ℕ) : Type 0 where
  pub before : (k : ℕ) (d : Literal) → k < first → IsFalseBefore trail count (slice_index_or clause k d)
  pub negative : (k : ℕ) (d : Literal) → k < length clause → (slice_index_or clause k d).positive ≡ false →
      IsFalseBefore trail count (slice_index_or clause k d)
  pub unmet : (k : ℕ) (d : Literal) (slot : Slot) → k < length clause → slot_of trail (slice_index_or clause k d).variable ≡ Some slot →
      literal_value trail (slice_index_or clause k d) ≡ Some true → count ≤ slot.place

-- the requirement is one of these, and was left to decide when the trail had its first entries, which are among the first `kept`
pub record IsLastOpen (last : LastOpen) (kept : ℕ) (trail : Trail) (table : List (List Literal)) (requirements : List StoredRequirement) : Type 0 where
  pub inside : last.requirement < length requirements
  pub count : last.count ≤ kept
  pub is_open : (d : StoredRequirement) →
      IsOpenSince trail (clause_at table (slice_index_or requirements last.requirement d).number) last.first last.count
