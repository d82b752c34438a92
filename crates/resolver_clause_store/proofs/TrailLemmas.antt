-- Trails that result from others.
use Rattle.std.proofs.Common.{◌≡◌, ◌≢◌, ℕ, ◌⊎◌, List, Option, Some, None, Bool, true, false, inl, inr, refl, sym, ap, ◌∙◌, ⊎_elim}
use Rattle.std.specs.Option.{option_map}
use Rattle.std.specs.Bool.{beq}
use Rattle.std.proofs.lemmas.Bool.{cases_eq}
use Rattle.std.proofs.lemmas.Option.{same_Some, none-some}
use Rattle.resolver_clause_store.specs.Literals.{Literal}
use Rattle.resolver_clause_store.specs.declared.trail.Slot.{Slot}
use Rattle.resolver_clause_store.specs.declared.trail.Reason.{Reason}
use Rattle.resolver_clause_store.specs.declared.trail.Trail.{Trail}
use Rattle.resolver_clause_store.specs.TrailView.{slot_of, length_of, literal_value, Gains}
use Rattle.resolver_clause_store.specs.Outcomes.{IsFalseBefore, IsForcing}

-- a false literal has a slot
pub value-false : (o : Option Slot) (b : Bool) → option_map (λ (slot : Slot). beq slot.value b) o ≡ Some false → (slot : Slot) × (o ≡ Some slot) ×
    (beq slot.value b ≡ false)
value-false None b is = cc
value-false (Some slot) b is = (slot, refl, cc)

-- a true literal has a slot
pub value-true : (o : Option Slot) (b : Bool) → option_map (λ (slot : Slot). beq slot.value b) o ≡ Some true → (slot : Slot) × (o ≡ Some slot) ×
    (beq slot.value b ≡ true)
value-true None b is = cc
value-true (Some slot) b is = (slot, refl, cc)

-- a literal without a value has no slot
pub value-none : (o : Option Slot) (b : Bool) → option_map (λ (slot : Slot). beq slot.value b) o ≡ None → o ≡ None
value-none None b is = refl
value-none (Some slot) b is = cc

-- each slot of the old trail is in the new one
pub record Keeps (old new : Trail) : Type 0 where
  pub kept : (variable : ℕ) (slot : Slot) → slot_of old variable ≡ Some slot → slot_of new variable ≡ Some slot

pub keeps-gains : (old new : Trail) (literal : Literal) (level : ℕ) (reason : Reason) → Gains old new literal level reason →
    slot_of old literal.variable ≡ None → Keeps old new
keeps-gains old new literal level reason gains free = record {
  kept = λ variable slot at.
      let differ : variable ≢ literal.variable = λ e. none-some _ (sym free ∙ ap (λ v. slot_of old v) (sym e) ∙ at) in
      gains.others variable differ ∙ at;
}

pub false_before-kept : (old new : Trail) (place : ℕ) (literal : Literal) → Keeps old new → IsFalseBefore old place literal → IsFalseBefore new place literal
false_before-kept old new place literal keeps f = record { slot = f.slot; is = keeps.kept _ _ f.is; false_there = f.false_there; earlier = f.earlier }

pub forcing-kept : (old new : Trail) (place : ℕ) (literal : Literal) (clause : List Literal) → Keeps old new → IsForcing old place literal clause →
    IsForcing new place literal clause
forcing-kept old new place literal clause keeps f = λ k d below. ⊎_elim (λ e. inl e) (λ e. inr (false_before-kept old new place _ keeps e)) (f k d below)

-- a false literal is false before the end of the trail
pub false-before : (trail : Trail) (literal : Literal) → literal_value trail literal ≡ Some false → IsFalseBefore trail (length_of trail) literal
false-before trail literal is = let v = value-false _ _ is in record { slot = v.0; is = v.1; false_there = v.2; earlier = (trail.listed _ _ v.1).0 }

abbrev pub made_slot : Trail → Literal → ℕ → Reason → Slot
made_slot old literal level reason = record { value = literal.positive; level = level; place = length_of old; reason = reason }

-- a slot of the new trail is the new one or an old one
pub gains-cases : (old new : Trail) (literal : Literal) (level : ℕ) (reason : Reason) → Gains old new literal level reason → (variable : ℕ) (slot : Slot) →
    slot_of new variable ≡ Some slot → ((variable ≡ literal.variable) × (slot ≡ made_slot old literal level reason)) ⊎ (slot_of old variable ≡ Some slot)
gains-cases old new literal level reason gains variable slot at = ⊎_elim
    (λ (e : variable ≡ literal.variable). inl (e, same_Some _ _ (sym at ∙ ap (λ v. slot_of new v) e ∙ gains.here)))
    (λ (ne : variable ≢ literal.variable). inr (sym (gains.others variable ne) ∙ at))
    (cases_eq variable literal.variable)
