-- The requirement that was last found left to decide.
use Rattle.std.proofs.Common.{◌≡◌, ℕ, ◌<◌, ◌≤◌, List, [], ◌∷◌, ◌++◌, length, get_or, Option, Some, None, Bool, true, false, arith, inl, inr}
use Rattle.std.proofs.Common.{refl, sym, ap, ◌∙◌, subst, ⊎_elim, length-append, Any}
use Rattle.std.specs.Bool.{beq}
use Rattle.std.specs.Option.{option_map}
use Rattle.std.proofs.Math.ListN.{get_or-append}
use Rattle.std.proofs.lemmas.Bool.{cases_lt}
use Rattle.std.proofs.lemmas.List.{get_or_default}
use Rattle.resolver_clause_store.specs.Literals.{Literal}
use Rattle.resolver_clause_store.specs.declared.clauses.StoredRequirement.{StoredRequirement}
use Rattle.resolver_clause_store.specs.declared.last_open.LastOpen.{LastOpen}
use Rattle.resolver_clause_store.specs.declared.trail.Slot.{Slot}
use Rattle.resolver_clause_store.specs.declared.trail.Trail.{Trail}
use Rattle.resolver_clause_store.specs.Decisions.{IsFirstUnassigned}
use Rattle.resolver_clause_store.specs.Formula.{clause_at}
use Rattle.resolver_clause_store.specs.LastOpens.{IsFirstNotFalse, IsLastOpen, IsOpenSince, NoneIsTrueFrom}
use Rattle.resolver_clause_store.specs.Outcomes.{IsFalseBefore, IsMet}
use Rattle.resolver_clause_store.specs.TrailView.{KeepsPlaces, length_of, literal_value, slot_of, variable_at}
use Rattle.resolver_clause_store.proofs.KeptLemmas.{slot-back}
use Rattle.resolver_clause_store.proofs.TrailLemmas.{false-before, value-true}

-- a property of the literal at a place
any-at : (P : Literal → Type 0) (clause : List Literal) (k : ℕ) (d : Literal) → k < length clause → P (get_or clause k d) → Any P clause
any-at P clause k d below holds = (k, get_or clause k d, below, get_or_default clause k (get_or clause k d) d below, holds)

-- a negative literal of a requirement that is left to decide is false
negative-false : (trail : Trail) (clause : List Literal) → (IsMet trail clause → ⊥) → (k : ℕ) (d : Literal) → k < length clause →
    (get_or clause k d).positive ≡ false → literal_value trail (get_or clause k d) ≡ Some false
negative-false trail clause unmet k d below negated = by_value (literal_value trail (get_or clause k d)) refl
  where
    by_value : (value : Option Bool) → literal_value trail (get_or clause k d) ≡ value → value ≡ Some false
    by_value None is = absurd (unmet (inr (any-at (λ (l : Literal). (literal_value trail l ≡ None) × (l.positive ≡ false)) clause k d below (is, negated))))
    by_value (Some true) is = absurd (unmet (inl (any-at (λ (l : Literal). literal_value trail l ≡ Some true) clause k d below is)))
    by_value (Some false) is = refl

-- a requirement that is left to decide now
pub open-now : (trail : Trail) (clause : List Literal) (first : ℕ) → IsFirstUnassigned trail clause first → IsOpenSince trail clause first (length_of trail)
open-now trail clause first is = record {
  before = λ k d below. false-before trail (get_or clause k d) (is.false_before k d below);
  negative = λ k d below negated. false-before trail (get_or clause k d) (negative-false trail clause is.unmet k d below negated);
  unmet = λ k d slot below at is_so. absurd (is.unmet (inl (any-at (λ (l : Literal). literal_value trail l ≡ Some true) clause k d below is_so)));
}

-- a literal that was false before a place is false
falsified : (trail : Trail) (count : ℕ) (l : Literal) → IsFalseBefore trail count l → literal_value trail l ≡ Some false
falsified trail count l f = ap (option_map (λ (s : Slot). beq s.value l.positive)) f.is ∙ ap (λ b. Some b) f.false_there

-- the entries that there were stay
pub open-cut : (before after : Trail) (clause : List Literal) (first count left : ℕ) → KeepsPlaces before after left → count ≤ left →
    IsOpenSince before clause first count → IsOpenSince after clause first count
open-cut before after clause first count left keeps less h = record {
  before = λ k d below. stays (get_or clause k d) (h.before k d below);
  negative = λ k d below negated. stays (get_or clause k d) (h.negative k d below negated);
  unmet = λ k d slot below at is_so. ⊎_elim
      (λ (early : slot.place < count).
      let was = slot-back before after left (get_or clause k d).variable slot keeps at (omega (arith, early, less)) in
      h.unmet k d slot below was (ap (option_map (λ (s : Slot). beq s.value (get_or clause k d).positive)) (was ∙ sym at) ∙ is_so))
      (λ (late : count ≤ slot.place). late)
      (cases_lt slot.place count);
}
  where
    stays : (l : Literal) → IsFalseBefore before count l → IsFalseBefore after count l
    stays l f = record {
      slot = f.slot;
      is = keeps.slots l.variable f.slot f.is (omega (arith, f.earlier, less));
      false_there = f.false_there;
      earlier = f.earlier;
    }

-- a requirement that was left to decide is so still, if no variable has become true
module _ (trail : Trail) (clause : List Literal) (first count : ℕ) (h : IsOpenSince trail clause first count)
    (none : NoneIsTrueFrom trail count (length_of trail)) where
  negative-not : (k : ℕ) (d : Literal) → k < length clause → (get_or clause k d).positive ≡ false → literal_value trail (get_or clause k d) ≡ Some false
  negative-not k d below negated = falsified trail count (get_or clause k d) (h.negative k d below negated)

  not-true : (k : ℕ) (d : Literal) → k < length clause → literal_value trail (get_or clause k d) ≡ Some true → ⊥
  not-true k d below is_so = by_sign (get_or clause k d).positive refl
    where
      by_sign : (b : Bool) → (get_or clause k d).positive ≡ b → ⊥
      by_sign false sign = let other : Some true ≡ Some false = sym is_so ∙ negative-not k d below sign in absurd cc
      by_sign true sign =
          let l : Literal = get_or clause k d in
          let v = value-true (slot_of trail l.variable) l.positive is_so in
          let listed = trail.listed l.variable v.0 v.1 in
          let here : literal_value trail (record { variable = variable_at trail v.0.place; positive = true }) ≡ Some true =
          ap (λ x. literal_value trail (record { variable = x; positive = true })) listed.1 ∙
          ap (λ b. literal_value trail (record { variable = l.variable; positive = b })) (sym sign) ∙ is_so in
          none.each v.0.place (h.unmet k d v.0 below v.1 is_so) listed.0 here

  pub open-still : (place : ℕ) → IsFirstNotFalse trail clause first place → IsFirstUnassigned trail clause place
  open-still place scan = record {
    within = scan.within;
    positive = λ d. positive-there d (get_or clause place d).positive refl;
    free = λ d. free-there d (literal_value trail (get_or clause place d)) refl;
    false_before = λ k d below. ⊎_elim
        (λ (less : k < first). falsified trail count (get_or clause k d) (h.before k d less))
        (λ (more : first ≤ k). scan.false_before k d more below)
        (cases_lt k first);
    unmet = λ met. ⊎_elim
        (λ sat. not-true sat.0 sat.1 sat.2 (ap (λ l. literal_value trail l) sat.3 ∙ sat.4))
        (λ free.
        let value = negative-not free.0 free.1 free.2 (ap (λ (l : Literal). l.positive) free.3 ∙ free.4.1) in
        let other : None ≡ Some false = sym free.4.0 ∙ sym (ap (λ l. literal_value trail l) free.3) ∙ value in
        absurd cc)
        met;
  }
    where
      positive-there : (d : Literal) (b : Bool) → (get_or clause place d).positive ≡ b → b ≡ true
      positive-there d true sign = refl
      positive-there d false sign = absurd (scan.not_false d (negative-not place d scan.within sign))

      free-there : (d : Literal) (value : Option Bool) → literal_value trail (get_or clause place d) ≡ value → value ≡ None
      free-there d None is = refl
      free-there d (Some true) is = absurd (not-true place d scan.within is)
      free-there d (Some false) is = absurd (scan.not_false d is)

-- more entries are unchanged
pub last-same : (old new : Option LastOpen) (kept more : ℕ) (trail : Trail) (table : List (List Literal)) (requirements : List StoredRequirement) →
    new ≡ old → kept ≤ more → ((last : LastOpen) → old ≡ Some last → IsLastOpen last kept trail table requirements) → (last : LastOpen) →
    new ≡ Some last → IsLastOpen last more trail table requirements
last-same old new kept more trail table requirements same less h last is =
    let w = h last (sym same ∙ is) in record { inside = w.inside; count = omega (arith, w.count, less); is_open = w.is_open }

-- the first entries of the trail stay
pub last-cut : (last : LastOpen) (kept left : ℕ) (before after : Trail) (table : List (List Literal)) (requirements : List StoredRequirement) →
    KeepsPlaces before after left → last.count ≤ left → IsLastOpen last kept before table requirements → IsLastOpen last left after table requirements
last-cut last kept left before after table requirements keeps less w = record {
  inside = w.inside;
  count = less;
  is_open = λ d. open-cut before after _ last.first last.count left keeps less (w.is_open d);
}

-- the clauses stay
pub last-grown : (last : LastOpen) (kept : ℕ) (trail : Trail) (table more : List (List Literal)) (requirements : List StoredRequirement) →
    ((d : StoredRequirement) → last.requirement < length requirements → clause_at more (get_or requirements last.requirement d).number ≡
    clause_at table (get_or requirements last.requirement d).number) → IsLastOpen last kept trail table requirements →
    IsLastOpen last kept trail more requirements
last-grown last kept trail table more requirements same w = record {
  inside = w.inside;
  count = w.count;
  is_open = λ d. let Open : List Literal → Type 0 = λ clause. IsOpenSince trail clause last.first last.count in
      subst Open (sym (same d w.inside)) (w.is_open d);
}

-- a requirement after the others
pub last-add : (last : LastOpen) (kept : ℕ) (trail : Trail) (table : List (List Literal)) (requirements : List StoredRequirement)
    (requirement : StoredRequirement) → IsLastOpen last kept trail table requirements →
    IsLastOpen last kept trail table (requirements ++ requirement ∷ [])
last-add last kept trail table requirements requirement w = record {
  inside = omega (arith, w.inside, length-append requirements (requirement ∷ []));
  count = w.count;
  is_open = λ d. let Open : StoredRequirement → Type 0 = λ r. IsOpenSince trail (clause_at table r.number) last.first last.count in
      subst Open (sym (get_or-append requirements (requirement ∷ []) d last.requirement w.inside)) (w.is_open d);
}
