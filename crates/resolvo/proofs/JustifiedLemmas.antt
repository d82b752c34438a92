-- Reasons stay right when a literal is set.
use Rattle.std.proofs.Common.{◌≡◌, ℕ, ◌<◌, ◌⊎◌, List, length, get_or, None, inl, inr, refl, sym, ap, ◌∙◌, subst, ⊎_elim}
use Rattle.std.specs.List.{Contains}
use Rattle.std.proofs.lemmas.Bool.{both_ways}
use Rattle.resolver_clause_store.specs.Literals.{Literal}
use Rattle.resolver_clause_store.specs.declared.StoredRequirement.{StoredRequirement}
use Rattle.resolver_clause_store.specs.declared.Slot.{Slot}
use Rattle.resolver_clause_store.specs.declared.Reason.{Reason}
use Rattle.resolver_clause_store.specs.declared.Reason.TheVariants.{Assumed, Decided, Forced}
use Rattle.resolver_clause_store.specs.declared.Trail.{Trail}
use Rattle.resolver_clause_store.specs.Formula.{clause_at}
use Rattle.resolver_clause_store.specs.Slots.{is_decided}
use Rattle.resolver_clause_store.specs.TrailView.{slot_of, length_of, Gains, IsSame}
use Rattle.resolver_clause_store.specs.Outcomes.{IsForcing}
use Rattle.resolver_clause_store.proofs.TrailLemmas.{Keeps, keeps-gains, false_before-kept, forcing-kept, false-before, gains-cases}
use Rattle.resolvo.specs.Propagation.{IsUnit, IsJustified, AreChosen, ExtendsTrail, IsDecidedFor}

pub forcing-unit : (old new : Trail) (literal : Literal) (clause : List Literal) → Keeps old new → IsUnit old literal clause →
    IsForcing new (length_of old) literal clause
forcing-unit old new literal clause keeps unit =
    λ k d below. ⊎_elim (λ e. inl e) (λ e. inr (false_before-kept old new _ _ keeps (false-before old _ e))) (unit k d below)

forced-is : (n m : ℕ) → Forced n ≡ Forced m → n ≡ m
forced-is n m e = cc

pub decided-forced : (n m : ℕ) → Decided n ≡ Forced m → ⊥
decided-forced n m e = absurd cc

-- the reason of a slot that was set
reason-made : (slot made : Slot) (reason : Reason) → slot ≡ made → slot.reason ≡ reason → made.reason ≡ reason
reason-made slot made reason e is = sym (ap (λ (s : Slot). s.reason) e) ∙ is

pub justified-gains : (table : List (List Literal)) (old new : Trail) (literal : Literal) (level number : ℕ) → IsJustified table old →
    Gains old new literal level (Forced number) → slot_of old literal.variable ≡ None → number < length table → Contains (clause_at table number) literal →
    IsUnit old literal (clause_at table number) → IsJustified table new
justified-gains table old new literal level number justified gains free inside there unit =
    let keeps = keeps-gains old new literal level _ gains free in
    record {
      within = λ v s n at reason. ⊎_elim
          (λ w. subst (λ m. m < length table) (forced-is number n (reason-made s _ _ w.1 reason)) inside)
          (λ w. justified.within v s n w reason)
          (gains-cases old new literal level _ gains v s at);
      forced = λ v s n at reason. ⊎_elim
          (λ w.
          let same : number ≡ n = forced-is number n (reason-made s _ _ w.1 reason) in
          let f : IsForcing new (length_of old) literal (clause_at table n) =
          subst (λ m. IsForcing new (length_of old) literal (clause_at table m)) same (forcing-unit old new literal _ keeps unit) in
          let g : IsForcing new s.place literal (clause_at table n) =
          subst (λ p. IsForcing new p literal (clause_at table n)) (sym (ap (λ (slot : Slot). slot.place) w.1)) f in
          let value : s.value ≡ literal.positive = ap (λ (slot : Slot). slot.value) w.1 in
          let l : literal ≡ record { variable = v; positive = s.value } = rw (w.0, value) in
          subst (λ k. IsForcing new s.place k (clause_at table n)) l g)
          (λ w. forcing-kept old new _ _ _ keeps (justified.forced v s n w reason))
          (gains-cases old new literal level _ gains v s at);
      contains = λ v s n at reason. ⊎_elim
          (λ w.
          let same : number ≡ n = forced-is number n (reason-made s _ _ w.1 reason) in
          let value : s.value ≡ literal.positive = ap (λ (slot : Slot). slot.value) w.1 in
          let l : literal ≡ record { variable = v; positive = s.value } = rw (w.0, value) in
          subst (λ k. Contains (clause_at table n) k) l (subst (λ m. Contains (clause_at table m) literal) same there))
          (λ w. justified.contains v s n w reason)
          (gains-cases old new literal level _ gains v s at);
    }

-- no clause forces a decision or an assumption
pub justified-decides : (table : List (List Literal)) (old new : Trail) (literal : Literal) (level : ℕ) (why : Reason) → ((n : ℕ) → why ≡ Forced n → ⊥) →
    IsJustified table old → Gains old new literal level why → slot_of old literal.variable ≡ None → IsJustified table new
justified-decides table old new literal level why other justified gains free =
    let keeps = keeps-gains old new literal level _ gains free in
    record {
      within = λ v s n at reason. ⊎_elim
          (λ w. absurd (other n (reason-made s _ _ w.1 reason)))
          (λ w. justified.within v s n w reason)
          (gains-cases old new literal level _ gains v s at);
      forced = λ v s n at reason. ⊎_elim
          (λ w. absurd (other n (reason-made s _ _ w.1 reason)))
          (λ w. forcing-kept old new _ _ _ keeps (justified.forced v s n w reason))
          (gains-cases old new literal level _ gains v s at);
      contains = λ v s n at reason. ⊎_elim
          (λ w. absurd (other n (reason-made s _ _ w.1 reason)))
          (λ w. justified.contains v s n w reason)
          (gains-cases old new literal level _ gains v s at);
    }

pub same-slots : (old new : Trail) → IsSame old new → (v : ℕ) → slot_of new v ≡ slot_of old v
same-slots old new same = λ v. ap (λ slots. get_or slots v None) same.slots

-- reasons stay right if the slots stay
pub justified-same : (table : List (List Literal)) (old new : Trail) → IsJustified table old → IsSame old new → IsJustified table new
justified-same table old new justified same =
    let back = same-slots old new same in
    let keeps : Keeps old new = record { kept = λ v s at. back v ∙ at } in
    record {
      within = λ v s n at reason. justified.within v s n (sym (back v) ∙ at) reason;
      forced = λ v s n at reason. forcing-kept old new _ _ _ keeps (justified.forced v s n (sym (back v) ∙ at) reason);
      contains = λ v s n at reason. justified.contains v s n (sym (back v) ∙ at) reason;
    }

pub extends-gains : (old new : Trail) (literal : Literal) (level number : ℕ) → Gains old new literal level (Forced number) →
    slot_of old literal.variable ≡ None → ExtendsTrail old new
extends-gains old new literal level number gains free = record {
  kept = (keeps-gains old new literal level _ gains free).kept;
  only = λ v s at. ⊎_elim (λ w. inr (ap (λ (slot : Slot). is_decided slot.reason) w.1)) (λ w. inl w) (gains-cases old new literal level _ gains v s at);
}

-- decisions stay when the trail is extended
pub chosen-kept : (table : List (List Literal)) (requirements : List StoredRequirement) (old new : Trail) (variable : ℕ) (slot : Slot) → Keeps old new →
    IsDecidedFor table requirements old variable slot → IsDecidedFor table requirements new variable slot
chosen-kept table requirements old new variable slot keeps c =
    let false_before = λ (k : ℕ) (d : Literal) (below : k < length c.before). false_before-kept old new _ _ keeps (c.false_before k d below) in
    search c

pub chosen-extends : (table : List (List Literal)) (requirements : List StoredRequirement) (old new : Trail) → AreChosen table requirements old →
    ExtendsTrail old new → AreChosen table requirements new
chosen-extends table requirements old new chosen extends = record {
  each = λ v s n at decided. ⊎_elim
      (λ was. chosen-kept table requirements old new v s (record { kept = extends.kept }) (chosen.each v s n was decided))
      (λ forced. absurd (both_ways _ forced (ap is_decided decided)))
      (extends.only v s at);
}

-- the reason of a variable's value
pub why : (r : Reason) → ((n : ℕ) × (r ≡ Decided n)) ⊎ (((n : ℕ) × (r ≡ Forced n)) ⊎ (r ≡ Assumed))
why (Decided n) = inl (n, refl)
why (Forced n) = inr (inl (n, refl))
why Assumed = inr (inr refl)
