-- The view of a trail.
use Rattle.std.specs.Prelude.{◌≡◌, ◌≢◌, ℕ, ◌+◌, ◌<◌, ◌≤◌, Bool, Option, Some, length, is_none, count_by, slice_index}
use Rattle.std.specs.Option.{option_map, option_map_or}
use Rattle.std.specs.Bool.{beq}
use Rattle.resolver_clause_store.specs.Literals.{Literal}
use Rattle.resolver_clause_store.specs.declared.trail.Slot.{Slot}
use Rattle.resolver_clause_store.specs.declared.trail.Reason.{Reason}
use Rattle.resolver_clause_store.specs.declared.trail.Trail.{Trail}
use Rattle.resolver_clause_store.specs.Slots.{last_level, slot_in}

-- the slot of a variable, if it has a value
abbrev pub slot_of : Trail → ℕ → Option Slot
slot_of trail variable = slot_in trail.slots variable

-- the number of variables
abbrev pub variable_count : Trail → ℕ
variable_count trail = length trail.slots

-- the number of variables that have a value
abbrev pub length_of : Trail → ℕ
length_of trail = length trail.order.items

-- the number of variables without a value
abbrev pub open_count : Trail → ℕ
open_count trail = count_by is_none trail.slots

-- the variable at a place
abbrev pub variable_at : Trail → ℕ → ℕ
variable_at trail place = slice_index trail.order.items place

-- the place of a variable, 0 if it has no value
abbrev pub place_of : Trail → ℕ → ℕ
place_of trail variable = option_map_or (λ (slot : Slot). slot.place) (slot_of trail variable) 0

-- the level of the trail's last place, 0 if no variable has a value
abbrev pub level_of : Trail → ℕ
level_of trail = last_level trail.slots trail.order.items

-- whether the literal is true, if its variable has a value
abbrev pub literal_value : Trail → Literal → Option Bool
literal_value trail literal = option_map (λ (slot : Slot). beq slot.value literal.positive) (slot_of trail literal.variable)

-- no level of the trail is higher
abbrev pub IsTop : Trail → ℕ → Type 0
IsTop trail level = (variable : ℕ) (slot : Slot) → slot_of trail variable ≡ Some slot → slot.level ≤ level

-- each level of the trail is lower
abbrev pub IsAbove : Trail → ℕ → Type 0
IsAbove trail level = (variable : ℕ) (slot : Slot) → slot_of trail variable ≡ Some slot → slot.level < level

-- nothing in the trail has changed
pub record IsSame (old new : Trail) : Type 0 where
  pub slots : new.slots ≡ old.slots
  pub order : new.order.items ≡ old.order.items

-- the literal is true now, and nothing else has changed
pub record Gains (old new : Trail) (literal : Literal) (level : ℕ) (reason : Reason) : Type 0 where
  pub here : slot_of new literal.variable ≡ Some (record { value = literal.positive; level = level; place = length_of old; reason = reason })
  pub others : (variable : ℕ) → variable ≢ literal.variable → slot_of new variable ≡ slot_of old variable
  pub size : variable_count new ≡ variable_count old
  pub count : length_of new ≡ length_of old + 1
  pub fewer_open : open_count new + 1 ≡ open_count old

-- there are this many variables now, the new ones without a value, and nothing else has changed
pub record IsGrown (old new : Trail) (variables : ℕ) : Type 0 where
  pub size : variable_count new ≡ variables
  pub slots : (variable : ℕ) → slot_of new variable ≡ slot_of old variable
  pub order : new.order.items ≡ old.order.items

-- exactly the first `count` places of the old trail are left
pub record IsCut (old new : Trail) (count : ℕ) : Type 0 where
  pub size : variable_count new ≡ variable_count old
  pub length : length_of new ≡ count
  pub kept : (variable : ℕ) (slot : Slot) → slot_of old variable ≡ Some slot → slot.place < count → slot_of new variable ≡ Some slot
  pub stays : (variable : ℕ) (slot : Slot) → slot_of new variable ≡ Some slot → slot_of old variable ≡ Some slot

-- the first `count` places of the trail have not changed: each has its variable, with the same slot
pub record KeepsPlaces (old new : Trail) (count : ℕ) : Type 0 where
  pub were : count ≤ length_of old
  pub are : count ≤ length_of new
  pub variables : (place : ℕ) → place < count → variable_at new place ≡ variable_at old place
  pub slots : (variable : ℕ) (slot : Slot) → slot_of old variable ≡ Some slot → slot.place < count → slot_of new variable ≡ Some slot

-- exactly the variables of this level or lower are left
pub record IsUndone (old new : Trail) (level : ℕ) : Type 0 where
  pub size : variable_count new ≡ variable_count old
  pub kept : (variable : ℕ) (slot : Slot) → slot_of old variable ≡ Some slot → slot.level ≤ level → slot_of new variable ≡ Some slot
  pub stays : (variable : ℕ) (slot : Slot) → slot_of new variable ≡ Some slot → (slot_of old variable ≡ Some slot) × (slot.level ≤ level)
