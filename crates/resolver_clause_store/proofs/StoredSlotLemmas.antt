-- Slots as they are stored: the effect of writing one, and of adding some.
use Rattle.std.proofs.Common.{◌≡◌, ℕ, zero, suc, ◌-◌, ◌<◌, ◌≤◌, ◌∙◌, List, [], ◌∷◌, ◌++◌, length, get_or, set, take, replicate, Bool, Option, None, Some, arith, refl, sym, ap}
use Rattle.std.specs.Option.{option_map}
use Rattle.std.proofs.lemmas.List.{take_all}
use Rattle.resolver_clause_store.specs.declared.slots.Cause.{Cause}
use Rattle.resolver_clause_store.specs.declared.slots.Cause.TheVariants.{Assumed}
use Rattle.resolver_clause_store.specs.declared.slots.StoredSlot.{StoredSlot}
use Rattle.resolver_clause_store.specs.declared.slots.StoredValue.{StoredValue}
use Rattle.resolver_clause_store.specs.declared.slots.StoredValue.TheVariants.{Open}
use Rattle.resolver_clause_store.specs.declared.trail.Reason.{Reason}
use Rattle.resolver_clause_store.specs.declared.trail.Slot.{Slot}
use Rattle.resolver_clause_store.specs.Slots.{slot_in}
use Rattle.resolver_clause_store.specs.StoredSlots.{reason_from, slot_with, slots_in, value_stored}

pub length-slots_in : (values : List StoredValue) (stored : List StoredSlot) → length values ≡ length stored → length (slots_in values stored) ≡ length stored
length-slots_in [] [] even = refl
length-slots_in [] (s ∷ stored) even = absurd (omega (arith, even))
length-slots_in (v ∷ values) [] even = absurd (omega (arith, even))
length-slots_in (v ∷ values) (s ∷ stored) even = ap suc (length-slots_in values stored (omega (arith, even)))

pub slots_in-at : (values : List StoredValue) (stored : List StoredSlot) (i : ℕ) (v : StoredValue) (s : StoredSlot) → length values ≡ length stored →
    i < length stored → get_or (slots_in values stored) i None ≡ slot_with (value_stored (get_or values i v)) (get_or stored i s)
slots_in-at [] [] i v s even within = absurd (omega (arith, within))
slots_in-at [] (t ∷ stored) i v s even within = absurd (omega (arith, even))
slots_in-at (w ∷ values) [] i v s even within = absurd (omega (arith, within))
slots_in-at (w ∷ values) (t ∷ stored) zero v s even within = refl
slots_in-at (w ∷ values) (t ∷ stored) (suc i) v s even within = slots_in-at values stored i v s (omega (arith, even)) (omega (arith, within))

pub slots_in-set : (values : List StoredValue) (stored : List StoredSlot) (i : ℕ) (v : StoredValue) (s : StoredSlot) → length values ≡ length stored →
    slots_in (set values i v) (set stored i s) ≡ set (slots_in values stored) i (slot_with (value_stored v) s)
slots_in-set [] [] i v s even = refl
slots_in-set [] (t ∷ stored) i v s even = absurd (omega (arith, even))
slots_in-set (w ∷ values) [] i v s even = absurd (omega (arith, even))
slots_in-set (w ∷ values) (t ∷ stored) zero v s even = refl
slots_in-set (w ∷ values) (t ∷ stored) (suc i) v s even =
    ap (λ (slots : List (Option Slot)). slot_with (value_stored w) t ∷ slots) (slots_in-set values stored i v s (omega (arith, even)))

pub slots_in-clear : (values : List StoredValue) (stored : List StoredSlot) (i : ℕ) → length values ≡ length stored →
    slots_in (set values i Open) stored ≡ set (slots_in values stored) i None
slots_in-clear [] [] i even = refl
slots_in-clear [] (t ∷ stored) i even = absurd (omega (arith, even))
slots_in-clear (w ∷ values) [] i even = absurd (omega (arith, even))
slots_in-clear (w ∷ values) (t ∷ stored) zero even = refl
slots_in-clear (w ∷ values) (t ∷ stored) (suc i) even =
    ap (λ (slots : List (Option Slot)). slot_with (value_stored w) t ∷ slots) (slots_in-clear values stored i (omega (arith, even)))

slots_in-open : (count : ℕ) (s : StoredSlot) → slots_in (replicate count Open) (replicate count s) ≡ replicate count None
slots_in-open zero s = refl
slots_in-open (suc count) s = ap (λ (slots : List (Option Slot)). None ∷ slots) (slots_in-open count s)

slots_in-append : (values more : List StoredValue) (stored others : List StoredSlot) → length values ≡ length stored →
    slots_in (values ++ more) (stored ++ others) ≡ slots_in values stored ++ slots_in more others
slots_in-append [] more [] others even = refl
slots_in-append [] more (t ∷ stored) others even = absurd (omega (arith, even))
slots_in-append (w ∷ values) more [] others even = absurd (omega (arith, even))
slots_in-append (w ∷ values) more (t ∷ stored) others even =
    ap (λ (slots : List (Option Slot)). slot_with (value_stored w) t ∷ slots) (slots_in-append values more stored others (omega (arith, even)))

-- both tables grew to the same length
pub slots_in-grown : (values new : List StoredValue) (stored after : List StoredSlot) (count : ℕ) (s : StoredSlot) → length values ≡ length stored →
    length stored ≤ count → new ≡ take count values ++ replicate (count - length values) Open →
    after ≡ take count stored ++ replicate (count - length stored) s →
    slots_in new after ≡ slots_in values stored ++ replicate (count - length stored) None
slots_in-grown values new stored after count s even fit values_is stored_is =
    ap (λ xs. slots_in xs after) (values_is ∙ ap (λ xs. xs ++ replicate (count - length values) Open) (take_all count values (omega (arith, even, fit))) ∙
    ap (λ n. values ++ replicate (count - n) Open) even) ∙
    ap (λ xs. slots_in (values ++ replicate (count - length stored) Open) xs)
    (stored_is ∙ ap (λ xs. xs ++ replicate (count - length stored) s) (take_all count stored fit)) ∙
    slots_in-append values _ stored _ even ∙ ap (λ slots. slots_in values stored ++ slots) (slots_in-open (count - length stored) s)

-- the value of a slot that is read back
slot_with-value : (value : Option Bool) (s : StoredSlot) → option_map (λ (slot : Slot). slot.value) (slot_with value s) ≡ value
slot_with-value None s = refl
slot_with-value (Some v) s = refl

-- what is stored of the slot of a variable
module _ (values : List StoredValue) (stored : List StoredSlot) (slots : List (Option Slot)) (i : ℕ) (even : length values ≡ length stored)
    (view : slots_in values stored ≡ slots) where
  pub length-view : length slots ≡ length stored
  length-view = sym (ap length view) ∙ length-slots_in values stored even

  module _ (within : i < length slots) where
    pub within-stored : i < length stored
    within-stored = omega (arith, within, length-view)

    pub within-values : i < length values
    within-values = omega (arith, within, length-view, even)

    slot_in-view : (v : StoredValue) (s : StoredSlot) → slot_in slots i ≡ slot_with (value_stored (get_or values i v)) (get_or stored i s)
    slot_in-view v s = ap (λ xs. slot_in xs i) (sym view) ∙ slots_in-at values stored i v s even within-stored

    pub value-read : (result : Option Bool) (v : StoredValue) → v ≡ get_or values i v → result ≡ value_stored v →
        result ≡ option_map (λ (slot : Slot). slot.value) (slot_in slots i)
    value-read result v is read =
        let s : StoredSlot = record { level = 0; place = 0; number = 0; cause = Assumed } in
        read ∙ ap value_stored is ∙ sym (ap (λ o. option_map (λ (slot : Slot). slot.value) o) (slot_in-view v s) ∙ slot_with-value _ (get_or stored i s))

    pub slot-read : (result : Option Slot) (value : Option Bool) (s : StoredSlot) → s ≡ get_or stored i s →
        value ≡ option_map (λ (slot : Slot). slot.value) (slot_in slots i) → result ≡ slot_with value s → result ≡ slot_in slots i
    slot-read result value s is valued read =
        let at = slot_in-view Open s in
        read ∙ ap (λ o. slot_with o s) (valued ∙ ap (λ o. option_map (λ (slot : Slot). slot.value) o) at ∙ slot_with-value _ (get_or stored i s)) ∙
        ap (λ t. slot_with (value_stored (get_or values i Open)) t) is ∙ sym at

  pub view-put : (v : StoredValue) (cause : Cause) (number : ℕ) (slot : Slot) → value_stored v ≡ Some slot.value → reason_from cause number ≡ slot.reason →
      slots_in (set values i v) (set stored i (record { level = slot.level; place = slot.place; number = number; cause = cause })) ≡
      set slots i (Some slot)
  view-put v cause number slot valued reasoned =
      let s : StoredSlot = record { level = slot.level; place = slot.place; number = number; cause = cause } in
      let made : slot_with (value_stored v) s ≡ Some slot = ap (λ o. slot_with o s) valued ∙
      ap (λ (r : Reason). Some (record { value = slot.value; level = slot.level; place = slot.place; reason = r })) reasoned in
      slots_in-set values stored i v s even ∙ ap (λ o. set (slots_in values stored) i o) made ∙ ap (λ xs. set xs i (Some slot)) view

  pub view-cleared : slots_in (set values i Open) stored ≡ set slots i None
  view-cleared = slots_in-clear values stored i even ∙ ap (λ xs. set xs i None) view

  pub view-grown : (new : List StoredValue) (after : List StoredSlot) (count : ℕ) (s : StoredSlot) → length stored ≤ count →
      new ≡ take count values ++ replicate (count - length values) Open → after ≡ take count stored ++ replicate (count - length stored) s →
      slots_in new after ≡ slots ++ replicate (count - length stored) None
  view-grown new after count s fit values_is stored_is = slots_in-grown values new stored after count s even fit values_is stored_is ∙
      ap (λ xs. xs ++ replicate (count - length stored) None) view
