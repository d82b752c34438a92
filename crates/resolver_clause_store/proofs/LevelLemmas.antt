-- The level of the variable at the last place.
use Rattle.std.proofs.Common.{◌≡◌, ℕ, ◌+◌, ◌-◌, ◌<◌, ◌≤◌, List, [], ◌∷◌, ◌++◌, length, length-append, set, Option, Some, arith, sym, ap, ◌∙◌, subst, ⊎_elim}
use Rattle.std.proofs.Common.{get_or-set_same}
use Rattle.std.specs.Prelude.{slice_index}
use Rattle.std.specs.Option.{option_map_or}
use Rattle.std.proofs.Math.Seq.{get_or-append_seam}
use Rattle.std.proofs.lemmas.Bool.{cases_lt}
use Rattle.resolver_clause_store.specs.declared.trail.Slot.{Slot}
use Rattle.resolver_clause_store.specs.declared.trail.Trail.{Trail}
use Rattle.resolver_clause_store.specs.Slots.{IsListed, IsPlaced, last_level, slot_in}
use Rattle.resolver_clause_store.specs.TrailView.{IsTop, length_of, level_of, variable_at}
use Rattle.resolver_clause_store.proofs.GrowLemmas.{AreSame}
use Rattle.resolver_clause_store.proofs.KeptLemmas.{slot_at}
use Rattle.resolver_clause_store.proofs.SlotLemmas.{level-empty, level-last, none-from, slot-within, top-empty, top-last}

-- the level of a slot, 0 if there is none
abbrev level_in : Option Slot → ℕ
level_in o = option_map_or (λ (slot : Slot). slot.level) o 0

pub level-top : (trail : Trail) → IsTop trail (level_of trail)
level-top trail = ⊎_elim
    (λ (some : 0 < length_of trail).
    let s = slot_at trail (length_of trail - 1) (omega (arith, some)) in
    let last : s.0.place + 1 ≡ length_of trail = omega (arith, s.2, some) in
    let Top : ℕ → Type 0 = λ level. IsTop trail level in
    subst Top (sym (level-last trail (variable_at trail (length_of trail - 1)) s.0 s.1 last))
    (top-last trail (variable_at trail (length_of trail - 1)) s.0 s.1 last))
    (λ (none : length_of trail ≤ 0).
    let empty : length_of trail ≡ 0 = omega (arith, none) in
    let Top : ℕ → Type 0 = λ level. IsTop trail level in
    subst Top (sym (level-empty trail empty)) (top-empty trail empty))
    (cases_lt 0 (length_of trail))

pub level-bound : (trail : Trail) → level_of trail ≤ length_of trail
level-bound trail = ⊎_elim
    (λ (some : 0 < length_of trail).
    let s = slot_at trail (length_of trail - 1) (omega (arith, some)) in
    let is = level-last trail (variable_at trail (length_of trail - 1)) s.0 s.1 (omega (arith, s.2, some)) in
    let few = (trail.counted (variable_at trail (length_of trail - 1)) s.0 s.1).0 in
    omega (arith, is, few, s.2, some))
    (λ (none : length_of trail ≤ 0).
    let empty : length_of trail ≡ 0 = omega (arith, none) in
    omega (arith, level-empty trail empty))
    (cases_lt 0 (length_of trail))

-- one more variable
pub level-push : (slots : List (Option Slot)) (order : List ℕ) (variable : ℕ) (slot : Slot) → variable < length slots →
    slot.level ≡ last_level (set slots variable (Some slot)) (order ++ variable ∷ [])
level-push slots order variable slot inside =
    let end : length (order ++ variable ∷ []) - 1 ≡ length order = omega (arith, length-append order (variable ∷ [])) in
    let named : slice_index (order ++ variable ∷ []) (length (order ++ variable ∷ []) - 1) ≡ variable =
    ap (λ n. slice_index (order ++ variable ∷ []) n) end ∙ get_or-append_seam order variable [] 0 in
    let here : slot_in (set slots variable (Some slot)) variable ≡ Some slot = rw get_or-set_same in
    sym (ap level_in (ap (λ v. slot_in (set slots variable (Some slot)) v) named ∙ here))

-- more variables without a value
pub level-same : (old new : List (Option Slot)) (order : List ℕ) → AreSame old new → last_level new order ≡ last_level old order
level-same old new order same = ap level_in (same.each (slice_index order (length order - 1)))

-- no variable has a value
pub level-none : (slots : List (Option Slot)) (order : List ℕ) → IsListed slots order → length order ≡ 0 → 0 ≡ last_level slots order
level-none slots order listed empty =
    sym (ap level_in (none-from (slot_in slots (slice_index order (length order - 1))) (λ slot at. omega (arith, (listed _ slot at).0, empty))))

-- the variable at the last place is in the table
pub last-within : (slots : List (Option Slot)) (order : List ℕ) → IsPlaced slots order → 0 < length order →
    slice_index order (length order - 1) < length slots
last-within slots order placed some = slot-within slots (slice_index order (length order - 1)) (length order - 1) (placed (length order - 1) (omega (arith, some)))
