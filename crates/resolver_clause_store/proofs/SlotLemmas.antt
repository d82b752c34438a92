-- The effect of writing a slot.
use Rattle.std.proofs.Common.{◌≡◌, ◌≢◌, ℕ, ◌+◌, ◌-◌, ◌<◌, ◌≤◌, List, [], ◌∷◌, ◌++◌, length, get_or, set, Option, Some, None, refl, sym, ap, ◌∙◌, arith, ◌⊎◌}
use Rattle.std.proofs.Common.{inl, inr}
use Rattle.std.specs.Option.{option_map, option_map_or}
use Rattle.std.proofs.Common.{length-append, get_or-set_other, get_or-set_same}
use Rattle.std.proofs.Math.ListN.{get_or-append}
use Rattle.std.proofs.lemmas.List.{get_or_past}
use Rattle.std.proofs.Math.Seq.{get_or-append_seam}
use Rattle.std.specs.Prelude.{true}
use Rattle.std.proofs.Common.{⊎_elim}
use Rattle.std.proofs.lemmas.Bool.{cases_eq, cases_lt}
use Rattle.std.proofs.lemmas.Option.{same_Some}
use Rattle.std.proofs.lemmas.Grind.{common_steps, elements}
use Rattle.resolver_clause_store.specs.declared.trail.Slot.{Slot}
use Rattle.resolver_clause_store.specs.declared.trail.Trail.{Trail}
use Rattle.resolver_clause_store.specs.Slots.{slot_in, is_decided, IsPlaced, IsListed, AreRising, AreCounted}
use Rattle.resolver_clause_store.specs.TrailView.{slot_of, length_of, level_of, variable_at, variable_count, IsCut, IsTop, IsUndone}

pub placed-push : (slots : List (Option Slot)) (order : List ℕ) (variable : ℕ) (slot : Slot) → IsPlaced slots order → slot_in slots variable ≡ None →
    variable < length slots → slot.place ≡ length order → IsPlaced (set slots variable (Some slot)) (order ++ variable ∷ [])
placed-push slots order variable slot placed free inside here = λ place within. grind (arith, common_steps, elements, placed place)

pub listed-push : (slots : List (Option Slot)) (order : List ℕ) (variable : ℕ) (slot : Slot) → IsListed slots order → slot_in slots variable ≡ None →
    variable < length slots → slot.place ≡ length order → IsListed (set slots variable (Some slot)) (order ++ variable ∷ [])
listed-push slots order variable slot listed free inside here = λ other s is. grind (arith, common_steps, elements, listed other s)

pub placed-pop : (slots : List (Option Slot)) (order rest : List ℕ) (variable : ℕ) → IsPlaced slots order → order ≡ rest ++ variable ∷ [] →
    IsPlaced (set slots variable None) rest
placed-pop slots order rest variable placed is = λ place within.
    let at : get_or (rest ++ variable ∷ []) place 0 ≡ get_or rest place 0 = get_or-append rest (variable ∷ []) 0 place within in
    let end : get_or (rest ++ variable ∷ []) (length rest) 0 ≡ variable = get_or-append_seam rest variable [] 0 in
    let long : length (rest ++ variable ∷ []) ≡ length rest + 1 = simp length-append in
    let p : IsPlaced slots (rest ++ variable ∷ []) = rw is at placed in
    let here = rw at at (p place (omega arith)) in
    let last = rw end at (p (length rest) (omega arith)) in
    let differ : get_or rest place 0 ≢ variable = λ e. grind arith in
    rw get_or-set_other here

-- a variable with a slot is in the table
pub slot-within : (slots : List (Option Slot)) (variable place : ℕ) → option_map (λ (slot : Slot). slot.place) (slot_in slots variable) ≡ Some place →
    variable < length slots
slot-within slots variable place h = grind (arith, get_or_past slots variable None)

pub last-inside : (slots : List (Option Slot)) (order rest : List ℕ) (variable : ℕ) → IsPlaced slots order → order ≡ rest ++ variable ∷ [] →
    option_map (λ (slot : Slot). slot.place) (slot_in slots variable) ≡ Some (length rest)
last-inside slots order rest variable placed is =
    let end : get_or (rest ++ variable ∷ []) (length rest) 0 ≡ variable = get_or-append_seam rest variable [] 0 in
    let long : length (rest ++ variable ∷ []) ≡ length rest + 1 = simp length-append in
    let p : IsPlaced slots (rest ++ variable ∷ []) = rw is at placed in
    rw end at (p (length rest) (omega arith))

pub kept-pop : (slots : List (Option Slot)) (order rest : List ℕ) (variable : ℕ) → IsPlaced slots order → order ≡ rest ++ variable ∷ [] →
    (other : ℕ) (s : Slot) → slot_in slots other ≡ Some s → s.place < length rest → slot_in (set slots variable None) other ≡ Some s
kept-pop slots order rest variable placed is = λ other s at early.
    let last = last-inside slots order rest variable placed is in
    let differ : other ≢ variable = λ e. grind arith in
    rw get_or-set_other at

pub stays-pop : (slots : List (Option Slot)) (order rest : List ℕ) (variable : ℕ) → IsPlaced slots order → order ≡ rest ++ variable ∷ [] →
    (other : ℕ) (s : Slot) → slot_in (set slots variable None) other ≡ Some s → slot_in slots other ≡ Some s
stays-pop slots order rest variable placed is = λ other s at.
    let inside = slot-within slots variable _ (last-inside slots order rest variable placed is) in
    let same : get_or (set slots variable None) variable None ≡ None = rw get_or-set_same in
    let differ : other ≢ variable = λ e. grind arith in
    grind (arith, get_or-set_other slots variable other None None differ)

pub listed-pop : (slots : List (Option Slot)) (order rest : List ℕ) (variable : ℕ) → IsPlaced slots order → IsListed slots order → order ≡ rest ++ variable ∷
    [] → IsListed (set slots variable None) rest
listed-pop slots order rest variable placed listed is = λ other s at.
    let end : get_or (rest ++ variable ∷ []) (length rest) 0 ≡ variable = get_or-append_seam rest variable [] 0 in
    let long : length (rest ++ variable ∷ []) ≡ length rest + 1 = simp length-append in
    let l : IsListed slots (rest ++ variable ∷ []) = rw is at listed in
    let was = stays-pop slots order rest variable placed is other s at in
    let last = last-inside slots order rest variable placed is in
    let there = l other s was in
    let inside = slot-within slots variable _ last in
    let same : get_or (set slots variable None) variable None ≡ None = rw get_or-set_same in
    let differ : other ≢ variable = λ e. grind arith in
    grind (arith, get_or-append rest (variable ∷ []) 0 s.place)

-- a slot of the written table is the new one or an old one
pub push-cases : (slots : List (Option Slot)) (variable : ℕ) (slot : Slot) (other : ℕ) (s : Slot) → slot_in (set slots variable (Some slot)) other ≡ Some s →
    variable < length slots → ((other ≡ variable) × (s ≡ slot)) ⊎ ((other ≢ variable) × (slot_in slots other ≡ Some s))
push-cases slots variable slot other s at inside = ⊎_elim
    (λ (e : other ≡ variable).
    let here : slot_in (set slots variable (Some slot)) variable ≡ Some slot = rw get_or-set_same in
    inl (e, same_Some _ _ (sym at ∙ ap (λ k. slot_in (set slots variable (Some slot)) k) e ∙ here)))
    (λ (ne : other ≢ variable).
    let there : slot_in (set slots variable (Some slot)) other ≡ slot_in slots other = get_or-set_other slots variable other (Some slot) None ne in
    inr (ne, sym there ∙ at))
    (cases_eq other variable)

pub rising-push : (slots : List (Option Slot)) (order : List ℕ) (variable : ℕ) (slot : Slot) → AreRising slots → IsListed slots order →
    variable < length slots → slot.place ≡ length order →
    ((v : ℕ) (s : Slot) → slot_in slots v ≡ Some s → s.level ≤ slot.level) →
    (is_decided slot.reason ≡ true → (v : ℕ) (s : Slot) → slot_in slots v ≡ Some s → s.level < slot.level) → AreRising (set slots variable (Some slot))
rising-push slots order variable slot rising listed inside here top begins = λ v w s t at later before. ⊎_elim
    (λ (b : (w ≡ variable) × (t ≡ slot)). ⊎_elim
    (λ (a : (v ≡ variable) × (s ≡ slot)). absurd (omega (arith, before, ap (λ (x : Slot). x.place) a.1, ap (λ (x : Slot). x.place) b.1)))
    (λ (a : (v ≢ variable) × (slot_in slots v ≡ Some s)). (
      omega (arith, top v s a.1, ap (λ (x : Slot). x.level) b.1),
      λ d. omega (arith, begins (ap (λ (x : Slot). is_decided x.reason) (sym b.1) ∙ d) v s a.1, ap (λ (x : Slot). x.level) b.1),
    ))
    (push-cases slots variable slot v s at inside))
    (λ (b : (w ≢ variable) × (slot_in slots w ≡ Some t)). ⊎_elim
    (λ (a : (v ≡ variable) × (s ≡ slot)). absurd (omega (arith, before, ap (λ (x : Slot). x.place) a.1, (listed w t b.1).0, here)))
    (λ (a : (v ≢ variable) × (slot_in slots v ≡ Some s)). rising v w s t a.1 b.1 before)
    (push-cases slots variable slot v s at inside))
    (push-cases slots variable slot w t later inside)

pub counted-push : (slots : List (Option Slot)) (order : List ℕ) (variable : ℕ) (slot : Slot) → AreCounted slots → variable < length slots →
    slot.place ≡ length order → slot.level ≤ length order + 1 → (is_decided slot.reason ≡ true → 0 < slot.level) → AreCounted (set slots variable (Some slot))
counted-push slots order variable slot counted inside here bound begins = λ v s at. ⊎_elim
    (λ (a : (v ≡ variable) × (s ≡ slot)). (
      omega (arith, ap (λ (x : Slot). x.level) a.1, ap (λ (x : Slot). x.place) a.1),
      λ d. omega (arith, begins (ap (λ (x : Slot). is_decided x.reason) (sym a.1) ∙ d), ap (λ (x : Slot). x.level) a.1),
    ))
    (λ (a : (v ≢ variable) × (slot_in slots v ≡ Some s)). counted v s a.1)
    (push-cases slots variable slot v s at inside)

pub rising-pop : (slots : List (Option Slot)) (order rest : List ℕ) (variable : ℕ) → IsPlaced slots order → order ≡ rest ++ variable ∷ [] → AreRising slots →
    AreRising (set slots variable None)
rising-pop slots order rest variable placed is rising =
    λ v w s t at later before. rising v w s t (stays-pop slots order rest variable placed is v s at)
    (stays-pop slots order rest variable placed is w t later) before

pub counted-pop : (slots : List (Option Slot)) (order rest : List ℕ) (variable : ℕ) → IsPlaced slots order → order ≡ rest ++ variable ∷ [] → AreCounted slots →
    AreCounted (set slots variable None)
counted-pop slots order rest variable placed is counted = λ v s at. counted v s (stays-pop slots order rest variable placed is v s at)

-- the variables of this level and lower ones are left, and perhaps more
pub record UndoesAbove (old new : Trail) (level : ℕ) : Type 0 where
  pub size : variable_count new ≡ variable_count old
  pub kept : (variable : ℕ) (slot : Slot) → slot_of old variable ≡ Some slot → slot.level ≤ level → slot_of new variable ≡ Some slot
  pub stays : (variable : ℕ) (slot : Slot) → slot_of new variable ≡ Some slot → slot_of old variable ≡ Some slot

pub top-last : (trail : Trail) (variable : ℕ) (slot : Slot) → slot_of trail variable ≡ Some slot → slot.place + 1 ≡ length_of trail → IsTop trail slot.level
top-last trail variable slot at last = λ v s is. ⊎_elim
    (λ (less : s.place < slot.place). (trail.rising v variable s slot is at less).0)
    (λ (more : slot.place ≤ s.place).
    let same : s.place ≡ slot.place = omega (arith, (trail.listed v s is).0) in
    let named : v ≡ variable = sym (trail.listed v s is).1 ∙ ap (λ n. variable_at trail n) same ∙ (trail.listed variable slot at).1 in
    let one : s ≡ slot = same_Some _ _ (sym is ∙ ap (λ n. slot_of trail n) named ∙ at) in
    omega (arith, ap (λ (x : Slot). x.level) one))
    (cases_lt s.place slot.place)

-- a slot whose place is known
pub placed-slot : (o : Option Slot) (slot : Slot) (place : ℕ) → option_map (λ (s : Slot). s.place) o ≡ Some place → o ≡ Some slot → slot.place ≡ place
placed-slot o slot place is at = same_Some _ _ (sym (ap (λ x. option_map (λ (s : Slot). s.place) x) at) ∙ is)

pub none-from : (o : Option Slot) → ((slot : Slot) → o ≡ Some slot → ⊥) → o ≡ None
none-from None never = refl
none-from (Some slot) never = absurd (never slot refl)

-- in an empty trail, no variable has a slot
pub none-empty : (trail : Trail) (variable : ℕ) → length_of trail ≡ 0 → slot_of trail variable ≡ None
none-empty trail variable empty = none-from (slot_of trail variable) (λ slot at. omega (arith, (trail.listed variable slot at).0))

pub top-empty : (trail : Trail) → length_of trail ≡ 0 → IsTop trail 0
top-empty trail empty = λ v s at. omega (arith, (trail.listed v s at).0)

pub level-empty : (trail : Trail) → length_of trail ≡ 0 → level_of trail ≡ 0
level-empty trail empty = ap (λ o. option_map_or (λ (slot : Slot). slot.level) o 0) (none-empty trail _ empty)

pub level-last : (trail : Trail) (variable : ℕ) (slot : Slot) → slot_of trail variable ≡ Some slot → slot.place + 1 ≡ length_of trail →
    level_of trail ≡ slot.level
level-last trail variable slot at last =
    let end : length_of trail - 1 ≡ slot.place = omega (arith, last) in
    let named : variable_at trail (length_of trail - 1) ≡ variable = ap (λ n. variable_at trail n) end ∙ (trail.listed variable slot at).1 in
    ap (λ o. option_map_or (λ (s : Slot). s.level) o 0) (ap (λ v. slot_of trail v) named ∙ at)

pub undoes-last : (old mid new : Trail) (level : ℕ) → UndoesAbove old mid level → level < level_of mid → IsCut mid new (length_of mid - 1) →
    UndoesAbove old new level
undoes-last old mid new level undoes high cut = record {
  size = cut.size ∙ undoes.size;
  kept = λ v s at low.
      let here = undoes.kept v s at low in
      ⊎_elim
      (λ (less : s.place < length_of mid - 1). cut.kept v s here less)
      (λ (more : length_of mid - 1 ≤ s.place).
      let last : s.place + 1 ≡ length_of mid = omega (arith, (mid.listed v s here).0) in
      absurd (omega (arith, level-last mid v s here last, high, low)))
      (cases_lt s.place (length_of mid - 1));
  stays = λ v s at. undoes.stays v s (cut.stays v s at);
}

pub undone : (old new : Trail) (level top : ℕ) → UndoesAbove old new level → IsTop new top → top ≤ level → IsUndone old new level
undone old new level top undoes all low = record {
  size = undoes.size;
  kept = undoes.kept;
  stays = λ v s at. (undoes.stays v s at, omega (arith, all v s at));
}

-- the first entries are left, and perhaps more
pub record CutsBehind (old new : Trail) (count : ℕ) : Type 0 where
  pub size : variable_count new ≡ variable_count old
  pub enough : count ≤ length_of new
  pub kept : (variable : ℕ) (slot : Slot) → slot_of old variable ≡ Some slot → slot.place < count → slot_of new variable ≡ Some slot
  pub stays : (variable : ℕ) (slot : Slot) → slot_of new variable ≡ Some slot → slot_of old variable ≡ Some slot

pub cuts-last : (old mid new : Trail) (count : ℕ) → CutsBehind old mid count → count < length_of mid → IsCut mid new (length_of mid - 1) →
    CutsBehind old new count
cuts-last old mid new count cuts more cut = record {
  size = cut.size ∙ cuts.size;
  enough = omega (arith, more, cut.length);
  kept = λ v s at low. cut.kept v s (cuts.kept v s at low) (omega (arith, more, low));
  stays = λ v s at. cuts.stays v s (cut.stays v s at);
}

pub cut-done : (old new : Trail) (count : ℕ) → CutsBehind old new count → length_of new ≤ count → IsCut old new count
cut-done old new count cuts less = record {
  size = cuts.size;
  length = omega (arith, less, cuts.enough);
  kept = cuts.kept;
  stays = cuts.stays;
}
