-- Clauses under a trail, and the effect of propagation on it.
use Rattle.std.specs.Prelude.{◌≡◌, ℕ, ◌+◌, ◌<◌, ◌≤◌, ◌⊎◌, ◌++◌, ◌∷◌, true, false, Option, Some, None, List, length, All, Contains, slice_index_or}
use Rattle.resolver_clause_store.specs.Literals.{Literal}
use Rattle.resolver_clause_store.specs.declared.StoredRequirement.{StoredRequirement}
use Rattle.resolver_clause_store.specs.declared.Slot.{Slot}
use Rattle.resolver_clause_store.specs.declared.Reason.TheVariants.{Assumed, Decided, Forced}
use Rattle.resolver_clause_store.specs.declared.Trail.{Trail}
use Rattle.resolver_clause_store.specs.Formula.{clause_at}
use Rattle.resolver_clause_store.specs.Slots.{is_decided}
use Rattle.resolver_clause_store.specs.TrailView.{length_of, literal_value, open_count, slot_of, variable_count}
use Rattle.resolver_clause_store.specs.Outcomes.{IsFalseBefore, IsFalsified, IsSatisfied, IsForcing}
use Rattle.resolver_clause_store.specs.Settled.{IsOpen}
use Rattle.resolvo.specs.declared.clause_state.State.{State}
use Rattle.resolvo.specs.declared.clause_state.State.TheVariants.{Satisfied, Falsified, Unit, Open}

-- each literal except this one is false
abbrev pub IsUnit : Trail → Literal → List Literal → Type 0
IsUnit trail literal clause =
    All (λ other. (other ≡ literal) ⊎ (literal_value trail other ≡ Some false)) clause

-- the state of the clause under the trail
abbrev pub StateIs : Trail → List Literal → State → Type 0
StateIs trail clause Satisfied = IsSatisfied trail clause
StateIs trail clause Falsified = IsFalsified trail clause
StateIs trail clause (Unit literal) = (literal_value trail literal ≡ None) × Contains clause literal × IsUnit trail literal clause
StateIs trail clause Open = IsOpen trail clause

-- what is known from the first literals of the clause, where only the one at this place, if any, has no value
abbrev pub HasSeen : Trail → List Literal → ℕ → Option ℕ → Type 0
HasSeen trail clause count None = (k : ℕ) (d : Literal) → k < count → literal_value trail (slice_index_or clause k d) ≡ Some false
HasSeen trail clause count (Some place) =
    (place < count) × ((d : Literal) → literal_value trail (slice_index_or clause place d) ≡ None) ×
    ((k : ℕ) (d : Literal) → k < count → (slice_index_or clause k d ≡ slice_index_or clause place d) ⊎
    (literal_value trail (slice_index_or clause k d) ≡ Some false))

-- if a clause forced a variable, the value makes one of its literals true, and the other literals were false before
pub record IsJustified (table : List (List Literal)) (trail : Trail) : Type 0 where
  pub within : (variable : ℕ) (slot : Slot) (number : ℕ) → slot_of trail variable ≡ Some slot → slot.reason ≡ Forced number → number < length table
  pub forced : (variable : ℕ) (slot : Slot) (number : ℕ) → slot_of trail variable ≡ Some slot → slot.reason ≡ Forced number →
      IsForcing trail slot.place (record { variable = variable; positive = slot.value }) (clause_at table number)
  pub contains : (variable : ℕ) (slot : Slot) (number : ℕ) → slot_of trail variable ≡ Some slot → slot.reason ≡ Forced number →
      Contains (clause_at table number) (record { variable = variable; positive = slot.value })

-- the variable is true, and in the clause of a stored requirement it comes after literals that were all false before
pub record IsDecidedFor (table : List (List Literal)) (requirements : List StoredRequirement) (trail : Trail) (variable : ℕ) (slot : Slot) : Type 0 where
  pub requirement : StoredRequirement
  pub listed : Contains requirements requirement
  pub value : slot.value ≡ true
  pub before : List Literal
  pub after : List Literal
  pub clause : clause_at table requirement.number ≡ before ++ record { variable = variable; positive = true } ∷ after
  pub false_before : All (IsFalseBefore trail slot.place) before

-- each variable that was decided was decided for a requirement
pub record AreChosen (table : List (List Literal)) (requirements : List StoredRequirement) (trail : Trail) : Type 0 where
  pub each : (variable : ℕ) (slot : Slot) (number : ℕ) → slot_of trail variable ≡ Some slot → slot.reason ≡ Decided number →
      IsDecidedFor table requirements trail variable slot

-- all values stay, and no new variable is decided or assumed
pub record ExtendsTrail (old new : Trail) : Type 0 where
  pub kept : (variable : ℕ) (slot : Slot) → slot_of old variable ≡ Some slot → slot_of new variable ≡ Some slot
  pub only : (variable : ℕ) (slot : Slot) → slot_of new variable ≡ Some slot → (slot_of old variable ≡ Some slot) ⊎ (is_decided slot.reason ≡ false)

-- what was forced is justified, all values stay, and each new entry of the trail gave a variable its value
pub record Propagates (table : List (List Literal)) (old new : Trail) : Type 0 where
  pub justified : IsJustified table new
  pub extends : ExtendsTrail old new
  pub size : variable_count new ≡ variable_count old
  pub open_ones : open_count new ≤ open_count old
  pub total : open_count new + length_of new ≡ open_count old + length_of old

-- no new variable is assumed
pub record AssumesNone (old new : Trail) : Type 0 where
  pub was : (variable : ℕ) (slot : Slot) → slot_of new variable ≡ Some slot → slot.reason ≡ Assumed → slot_of old variable ≡ Some slot

-- the clause with this number is false
abbrev pub IsConflict : Trail → List (List Literal) → ℕ → Type 0
IsConflict trail table number = (number < length table) × IsFalsified trail (clause_at table number)
