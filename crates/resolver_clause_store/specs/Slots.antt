-- The slots of variables, and the list of the variables that have a value.
use Rattle.std.specs.Prelude.{◌≡◌, ℕ, ◌+◌, ◌-◌, ◌<◌, ◌≤◌, Bool, true, false, List, length, slice_index, slice_index_or, Option, Some, None}
use Rattle.std.specs.Option.{option_map, option_map_or}
use Rattle.resolver_clause_store.specs.declared.trail.Slot.{Slot}
use Rattle.resolver_clause_store.specs.declared.trail.Reason.{Reason}
use Rattle.resolver_clause_store.specs.declared.trail.Reason.TheVariants.{Assumed, Decided, Forced}

-- the slot of a variable, if it has a value
abbrev pub slot_in : List (Option Slot) → ℕ → Option Slot
slot_in slots variable = slice_index_or slots variable None

-- whether the variable was decided or assumed
abbrev pub is_decided : Reason → Bool
is_decided (Decided number) = true
is_decided (Forced number) = false
is_decided Assumed = true

-- the variable at each place has a slot, which names that place
abbrev pub IsPlaced : List (Option Slot) → List ℕ → Type 0
IsPlaced slots order =
    (place : ℕ) → place < length order → option_map (λ (slot : Slot). slot.place) (slot_in slots (slice_index order place)) ≡ Some place

-- each slot names the place of its variable
abbrev pub IsListed : List (Option Slot) → List ℕ → Type 0
IsListed slots order =
    (variable : ℕ) (slot : Slot) → slot_in slots variable ≡ Some slot → (slot.place < length order) × (slice_index order slot.place ≡ variable)

-- levels never fall from place to place, and a decision or an assumption begins a level
abbrev pub AreRising : List (Option Slot) → Type 0
AreRising slots =
    (variable other : ℕ) (slot later : Slot) → slot_in slots variable ≡ Some slot → slot_in slots other ≡ Some later → slot.place < later.place →
    (slot.level ≤ later.level) × (is_decided later.reason ≡ true → slot.level < later.level)

-- a level is at most one more than the place, and a decision or an assumption is above level 0
abbrev pub AreCounted : List (Option Slot) → Type 0
AreCounted slots =
    (variable : ℕ) (slot : Slot) → slot_in slots variable ≡ Some slot → (slot.level ≤ slot.place + 1) × (is_decided slot.reason ≡ true → 0 < slot.level)

-- the level of the variable at the last place, 0 if there is none
abbrev pub last_level : List (Option Slot) → List ℕ → ℕ
last_level slots order = option_map_or (λ (slot : Slot). slot.level) (slot_in slots (slice_index order (length order - 1))) 0
