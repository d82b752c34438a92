-- Slots as they are stored.
use Rattle.std.specs.Prelude.{ℕ, Bool, true, false, List, [], ◌∷◌, Option, Some, None}
use Rattle.std.specs.Option.{option_map}
use Rattle.resolver_clause_store.specs.declared.slots.Cause.{Cause}
use Rattle.resolver_clause_store.specs.declared.slots.Cause.TheVariants.{Assumed as AssumedCause, Decided as DecidedCause, Forced as ForcedCause}
use Rattle.resolver_clause_store.specs.declared.slots.StoredSlot.{StoredSlot}
use Rattle.resolver_clause_store.specs.declared.slots.StoredValue.{StoredValue}
use Rattle.resolver_clause_store.specs.declared.slots.StoredValue.TheVariants.{False, Open, True}
use Rattle.resolver_clause_store.specs.declared.trail.Reason.{Reason}
use Rattle.resolver_clause_store.specs.declared.trail.Reason.TheVariants.{Assumed, Decided, Forced}
use Rattle.resolver_clause_store.specs.declared.trail.Slot.{Slot}

-- the value that is stored, if there is one
abbrev pub value_stored : StoredValue → Option Bool
value_stored False = Some false
value_stored True = Some true
value_stored Open = None

-- the reason with these parts
abbrev pub reason_from : Cause → ℕ → Reason
reason_from DecidedCause number = Decided number
reason_from ForcedCause number = Forced number
reason_from AssumedCause number = Assumed

-- a slot with this value, if there is one
abbrev pub slot_with : Option Bool → StoredSlot → Option Slot
slot_with value stored = option_map (λ (v : Bool). record {
  value = v;
  level = stored.level;
  place = stored.place;
  reason = reason_from stored.cause stored.number;
}) value

-- the slots with these values
abbrev pub slots_in : List StoredValue → List StoredSlot → List (Option Slot)
slots_in [] stored = []
slots_in (value ∷ values) [] = []
slots_in (value ∷ values) (one ∷ stored) = slot_with (value_stored value) one ∷ slots_in values stored
