-- First entries of a trail that have not changed.
use Rattle.std.proofs.Common.{◌≡◌, ℕ, zero, suc, ◌<◌, ◌≤◌, min, Option, None, Some, arith, refl, sym, ap, ◌∙◌}
use Rattle.std.specs.Option.{option_map}
use Rattle.std.proofs.lemmas.Option.{same_Some}
use Rattle.resolver_clause_store.specs.declared.trail.Slot.{Slot}
use Rattle.resolver_clause_store.specs.declared.trail.Trail.{Trail}
use Rattle.resolver_clause_store.specs.TrailView.{IsGrown, IsUndone, KeepsPlaces, length_of, slot_of, variable_at}
use Rattle.resolver_clause_store.proofs.TrailLemmas.{Keeps}

-- the slot at a place
pub slot_placed : (o : Option Slot) (k : ℕ) → option_map (λ (slot : Slot). slot.place) o ≡ Some k → (slot : Slot) × (o ≡ Some slot) × (slot.place ≡ k)
slot_placed None k e = absurd cc
slot_placed (Some slot) k e = (slot, refl, same_Some _ _ e)

pub slot_at : (trail : Trail) (place : ℕ) → place < length_of trail → (slot : Slot) × (slot_of trail (variable_at trail place) ≡ Some slot) ×
    (slot.place ≡ place)
slot_at trail place within = slot_placed _ place (trail.placed place within)

-- the entry at a place stays if its slot stays
place_kept : (old new : Trail) (place : ℕ) → place < length_of old →
    ((variable : ℕ) (slot : Slot) → slot_of old variable ≡ Some slot → slot.place ≡ place → slot_of new variable ≡ Some slot) → (place < length_of new) ×
    (variable_at new place ≡ variable_at old place)
place_kept old new place within kept =
    let s = slot_at old place within in
    let l = new.listed (variable_at old place) s.0 (kept _ s.0 s.1 s.2) in
    (omega (arith, l.0, s.2), ap (λ p. variable_at new p) (sym s.2) ∙ l.1)

long_enough : (old new : Trail) (count : ℕ) → count ≤ length_of old →
    ((variable : ℕ) (slot : Slot) → slot_of old variable ≡ Some slot → slot.place < count → slot_of new variable ≡ Some slot) → count ≤ length_of new
long_enough old new zero within kept = omega arith
long_enough old new (suc count) within kept = omega (arith, (place_kept old new count (omega arith) (λ v s at e. kept v s at (omega (arith, e)))).0)

-- the first entries stay if their slots stay
pub keeps_places : (old new : Trail) (count : ℕ) → count ≤ length_of old →
    ((variable : ℕ) (slot : Slot) → slot_of old variable ≡ Some slot → slot.place < count → slot_of new variable ≡ Some slot) → KeepsPlaces old new count
keeps_places old new count within kept = record {
  were = within;
  are = long_enough old new count within kept;
  variables = λ place below. (place_kept old new place (omega arith) (λ v s at e. kept v s at (omega (arith, e)))).1;
  slots = kept;
}

-- a trail that only grows keeps all its entries
pub keeps_all : (old new : Trail) → Keeps old new → KeepsPlaces old new (length_of old)
keeps_all old new keeps = keeps_places old new (length_of old) (omega arith) (λ v s at below. keeps.kept v s at)

pub keeps_trans : (a b c : Trail) (first second : ℕ) → KeepsPlaces a b first → KeepsPlaces b c second → KeepsPlaces a c (min first second)
keeps_trans a b c first second k l =
    keeps_places a c (min first second) (omega (arith, k.were)) (λ v s at below. l.slots v s (k.slots v s at (omega arith)) (omega arith))

-- entries that were added before the trail was undone make no difference
pub keeps_through : (a b c : Trail) (first second : ℕ) → KeepsPlaces a b first → KeepsPlaces b c second → first ≤ second → KeepsPlaces a c first
keeps_through a b c first second k l more = keeps_places a c first k.were (λ v s at below. l.slots v s (k.slots v s at below) (omega arith))

pub at_most : (m n : ℕ) → ((k : ℕ) → k < m → k < n) → m ≤ n
at_most zero n back = omega arith
at_most (suc m) n back = omega (arith, back m (omega arith))

shorter : (old new : Trail) → ((place : ℕ) → place < length_of new → place < length_of old) → length_of new ≤ length_of old
shorter old new back = at_most (length_of new) (length_of old) back

-- a trail that was undone keeps the entries that are left
pub keeps_undone : (old new : Trail) (level : ℕ) → IsUndone old new level → KeepsPlaces old new (length_of new)
keeps_undone old new level undone =
    let back : (place : ℕ) → place < length_of new → place < length_of old = λ place below.
    let s = slot_at new place below in
    omega (arith, s.2, (old.listed _ s.0 (undone.stays _ s.0 s.1).0).0)
    in
    keeps_places old new (length_of new) (shorter old new back) (λ v s at below.
    let t = slot_at new s.place below in
    let was = (undone.stays _ t.0 t.1).0 in
    let one : variable_at new s.place ≡ v = sym (old.listed _ t.0 was).1 ∙ ap (λ p. variable_at old p) t.2 ∙ (old.listed v s at).1 in
    let here : slot_of new v ≡ Some t.0 = ap (λ x. slot_of new x) (sym one) ∙ t.1 in
    let there : slot_of old v ≡ Some t.0 = ap (λ x. slot_of old x) (sym one) ∙ was in
    here ∙ sym there ∙ at)

-- more variables change no entry
pub keeps_grown : (old new : Trail) (variables : ℕ) → IsGrown old new variables → KeepsPlaces old new (length_of old)
keeps_grown old new variables grown = keeps_places old new (length_of old) (omega arith) (λ v s at below. grown.slots v ∙ at)

-- a slot at a place that stays was there before
pub slot-back : (old new : Trail) (count variable : ℕ) (slot : Slot) → KeepsPlaces old new count → slot_of new variable ≡ Some slot → slot.place < count →
    slot_of old variable ≡ Some slot
slot-back old new count variable slot keeps at below =
    let s = slot_at old slot.place (omega (arith, below, keeps.were)) in
    let named : variable_at old slot.place ≡ variable = sym (keeps.variables slot.place below) ∙ (new.listed variable slot at).1 in
    let was : slot_of old variable ≡ Some s.0 = ap (λ v. slot_of old v) (sym named) ∙ s.1 in
    let here : slot_of new variable ≡ Some s.0 = keeps.slots variable s.0 was (omega (arith, s.2, below)) in
    was ∙ sym here ∙ at
