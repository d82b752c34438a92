-- A trail with more variables.
use Rattle.std.proofs.Common.{◌≡◌, ℕ, ◌-◌, ◌<◌, ◌≤◌, List, ◌++◌, length, length-append, get_or, replicate, Option, None, arith, sym}
use Rattle.std.proofs.Common.{ap, ◌∙◌, ⊎_elim}
use Rattle.std.specs.Option.{option_map}
use Rattle.std.proofs.Math.ListN.{get_or-append}
use Rattle.std.proofs.Math.Seq.{get_or-append_right}
use Rattle.std.proofs.lemmas.Bool.{cases_lt}
use Rattle.std.proofs.lemmas.List.{get_or_past, get_or-replicate, length-replicate}
use Rattle.resolver_clause_store.specs.declared.trail.Slot.{Slot}
use Rattle.resolver_clause_store.specs.Slots.{AreCounted, AreRising, IsListed, IsPlaced, slot_in}

-- each slot of an empty table is none
none_at : (count v : ℕ) → get_or (replicate {A = Option Slot} count None) v None ≡ None
none_at count v = ⊎_elim
    (λ (less : v < count). get_or-replicate count v None None less)
    (λ (more : count ≤ v). get_or_past (replicate {A = Option Slot} count None) v None (omega (arith, length-replicate {A = Option Slot} count None)))
    (cases_lt v count)

appended : (slots : List (Option Slot)) (count v : ℕ) → slot_in (slots ++ replicate count None) v ≡ slot_in slots v
appended slots count v = ⊎_elim
    (λ (less : v < length slots). get_or-append slots (replicate count None) None v less)
    (λ (more : length slots ≤ v). get_or-append_right slots (replicate count None) v None more ∙ none_at count _ ∙ sym (get_or_past slots v None more))
    (cases_lt v (length slots))

-- the slots after a table grew
pub slots-grown : (old new : List (Option Slot)) (more : ℕ) → new ≡ old ++ replicate more None → (v : ℕ) → slot_in new v ≡ slot_in old v
slots-grown old new more is v = ap (λ slots. slot_in slots v) is ∙ appended old more v

pub length-grown : (old new : List (Option Slot)) (count size : ℕ) → size ≡ length old → length old ≤ count → new ≡ old ++ replicate (count - size) None →
    length new ≡ count
length-grown old new count size had fit is =
    ap length is ∙ length-append old _ ∙ omega (arith, had, fit, length-replicate {A = Option Slot} (count - size) None)

-- the same slots
pub record AreSame (old new : List (Option Slot)) : Type 0 where
  pub each : (v : ℕ) → slot_in new v ≡ slot_in old v

pub placed-same : (old new : List (Option Slot)) (order : List ℕ) → AreSame old new → IsPlaced old order → IsPlaced new order
placed-same old new order same placed = λ place within. ap (λ o. option_map (λ (slot : Slot). slot.place) o) (same.each _) ∙ placed place within

pub listed-same : (old new : List (Option Slot)) (order : List ℕ) → AreSame old new → IsListed old order → IsListed new order
listed-same old new order same listed = λ v slot at. listed v slot (sym (same.each v) ∙ at)

pub rising-same : (old new : List (Option Slot)) → AreSame old new → AreRising old → AreRising new
rising-same old new same rising = λ v w s t at later. rising v w s t (sym (same.each v) ∙ at) (sym (same.each w) ∙ later)

pub counted-same : (old new : List (Option Slot)) → AreSame old new → AreCounted old → AreCounted new
counted-same old new same counted = λ v s at. counted v s (sym (same.each v) ∙ at)
