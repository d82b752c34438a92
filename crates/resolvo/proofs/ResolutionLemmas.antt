-- The marked variables, and the causes that contradict their values.
use Rattle.std.proofs.Common.{◌≡◌, ◌≢◌, ℕ, List, [], ◌∷◌, ◌++◌, length, get_or, set, Option, Some, Bool, true, false, arith, inl, inr, sym, ap, ◌∙◌, subst, ⊎_elim}
use Rattle.std.proofs.Common.{get_or-set_other}
use Rattle.std.proofs.Common.{length-append}
use Rattle.std.proofs.Math.ListN.{get_or-append}
use Rattle.std.proofs.Math.Seq.{get_or-append_seam}
use Rattle.std.specs.Bool.{beq}
use Rattle.std.specs.List.{All}
use Rattle.std.specs.Option.{option_map}
use Rattle.std.proofs.lemmas.Bool.{cases_eq, cases_Bool, both_ways}
use Rattle.std.proofs.lemmas.Option.{same_Some}
use Rattle.resolver_clause_store.specs.Literals.{Literal}
use Rattle.resolver_clause_store.specs.declared.Slot.{Slot}
use Rattle.resolver_clause_store.specs.declared.Trail.{Trail}
use Rattle.resolver_clause_store.specs.TrailView.{literal_value, slot_of}
use Rattle.resolver_clause_store.specs.Formula.{literal_true, clause_true, clause_at, MakesTrue}
use Rattle.resolver_clause_store.specs.Outcomes.{IsFalsified}
use Rattle.resolvo.specs.Propagation.{IsJustified}
use Rattle.resolver_clause_store.proofs.FormulaLemmas.{clause-false}
use Rattle.resolvo.specs.Resolvents.{is_marked, ImpliesValue, MarksAlso, Refutes, IsReason}
use Rattle.resolver_clause_store.proofs.BoolLemmas.{beq-itself, beq-true}
use Rattle.resolver_clause_store.proofs.TrailLemmas.{value-false, value-true}

-- a false clause contradicts the values of its variables
pub refutes-begin : (table : List (List Literal)) (trail : Trail) (old marks : List Bool) (number : ℕ) → IsFalsified trail (clause_at table number) →
    MarksAlso old marks (clause_at table number) → Refutes table trail marks (number ∷ [])
refutes-begin table trail old marks number falsified so = record {
  apart = λ values holds agrees.
      let each : All (λ literal. literal_true values literal ≡ false) (clause_at table number) = λ k d below.
      let v = value-false _ _ (falsified k d below) in
      ap (λ b. beq b (get_or (clause_at table number) k d).positive) (agrees _ v.0 (so.all k d below) v.1) ∙ v.2 in
      both_ways _ (clause-false values _ each) (holds 0 0 (omega arith));
}

-- a reason implies the variable that it forced
pub implies-reason : (table : List (List Literal)) (trail : Trail) (variable number : ℕ) → IsJustified table trail → IsReason trail variable number →
    ImpliesValue trail (clause_at table number) variable
implies-reason table trail variable number justified reason = λ k d below.
    let s = reason.slot in
    let value : Bool → Option Slot → Option Bool = λ b o. option_map (λ (slot : Slot). beq slot.value b) o in
    ⊎_elim
    (λ e. inl (ap (λ (l : Literal). l.variable) e, ap (λ (l : Literal). literal_value trail l) e ∙ ap (value s.value) reason.is ∙ ap Some (beq-itself s.value)))
    (λ f.
    let l = get_or (clause_at table number) k d in
    let ne : l.variable ≢ variable = λ e.
    let same : f.slot ≡ s = same_Some _ _ (sym f.is ∙ ap (λ v. slot_of trail v) e ∙ reason.is) in
    absurd (omega (arith, f.earlier, ap (λ (t : Slot). t.place) same)) in
    inr (ne, ap (value l.positive) f.is ∙ ap Some f.false_there))
    (justified.forced variable s number reason.is reason.reason k d below)

-- the other literals of a clause that implies it take the place of a variable
pub refutes-implied : (table : List (List Literal)) (trail : Trail) (old mid : List Bool) (causes : List ℕ) (variable number : ℕ) →
    Refutes table trail old causes → ImpliesValue trail (clause_at table number) variable → MarksAlso old mid (clause_at table number) →
    Refutes table trail (set mid variable false) (causes ++ number ∷ [])
refutes-implied table trail old mid causes variable number refutes implied so = record {
  apart = λ values holds agrees.
      let marked : (v : ℕ) → v ≢ variable → is_marked mid v ≡ true → is_marked (set mid variable false) v ≡ true =
      λ v ne m. get_or-set_other mid variable v false false ne ∙ m in
      let here : clause_true values (clause_at table number) ≡ true =
      subst (λ n. clause_true values (clause_at table n) ≡ true) (get_or-append_seam causes number [] 0)
      (holds (length causes) 0 (simp length-append (omega arith))) in
      let others : MakesTrue values table causes =
      λ k d below. subst (λ n. clause_true values (clause_at table n) ≡ true) (get_or-append causes (number ∷ []) d k below)
      (holds k d (simp length-append (omega arith))) in
      let each : (t : Slot) → slot_of trail variable ≡ Some t → beq (values variable) t.value ≡ false →
      All (λ l. literal_true values l ≡ false) (clause_at table number) = λ t at wrong k d below.
      let l = get_or (clause_at table number) k d in
      ⊎_elim
      (λ (own : (l.variable ≡ variable) × (literal_value trail l ≡ Some true)).
      let v = value-true _ _ own.1 in
      let same : v.0 ≡ t = same_Some _ _ (sym v.1 ∙ ap (λ n. slot_of trail n) own.0 ∙ at) in
      let sign : t.value ≡ l.positive = sym (ap (λ (u : Slot). u.value) same) ∙ beq-true _ _ v.2 in
      ap (λ n. beq (values n) l.positive) own.0 ∙ ap (λ b. beq (values variable) b) (sym sign) ∙ wrong)
      (λ (other : (l.variable ≢ variable) × (literal_value trail l ≡ Some false)).
      let v = value-false _ _ other.1 in
      ap (λ b. beq b l.positive) (agrees _ v.0 (marked _ other.0 (so.all k d below)) v.1) ∙ v.2)
      (implied k d below) in
      let value : (t : Slot) → slot_of trail variable ≡ Some t → values variable ≡ t.value = λ t at. ⊎_elim
      (λ e. beq-true _ _ e)
      (λ e. absurd (both_ways _ (clause-false values _ (each t at e)) here))
      (cases_Bool (beq (values variable) t.value)) in
      refutes.apart values others (λ v t m at. ⊎_elim
      (λ e. ap values e ∙ value t (sym (ap (λ w. slot_of trail w) e) ∙ at))
      (λ ne. agrees v t (marked v ne (so.kept v m)) at)
      (cases_eq v variable));
}
