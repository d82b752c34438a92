-- Levels and places of marked variables.
use Rattle.std.proofs.Common.{◌≡◌, ◌≢◌, ℕ, ◌+◌, ◌<◌, ◌≤◌, ◌⊎◌, List, length, get_or, set, take, Some, Bool, true, false, arith, rules, inl}
use Rattle.std.proofs.Common.{inr, refl, sym, ap, ◌∙◌, subst, ⊎_elim, get_or-set_other}
use Rattle.std.specs.Prelude.{not}
use Rattle.std.specs.List.{All, Any, Contains}
use Rattle.std.specs.Option.{option_map_or}
use Rattle.std.proofs.lemmas.Bool.{cases_Bool, both_ways, cases_lt}
use Rattle.std.proofs.lemmas.List.Elements.{All-more, All-weaker}
use Rattle.std.proofs.lemmas.Option.{same_Some}
use Rattle.resolver_clause_store.specs.Literals.{Literal}
use Rattle.resolver_clause_store.specs.declared.Slot.{Slot}
use Rattle.resolver_clause_store.specs.declared.Trail.{Trail}
use Rattle.resolver_clause_store.specs.Formula.{clause_at}
use Rattle.resolver_clause_store.specs.Outcomes.{IsFalsified, IsFalseBefore}
use Rattle.resolver_clause_store.specs.Slots.{is_decided}
use Rattle.resolver_clause_store.specs.TrailView.{slot_of, length_of, variable_at, place_of}
use Rattle.resolver_clause_store.proofs.TrailLemmas.{value-false}
use Rattle.resolver_clause_store.proofs.FormulaLemmas.{beq-false}
use Rattle.resolvo.specs.Propagation.{IsJustified}
use Rattle.resolvo.specs.declared.learn.resolve.Resolvent.{Resolvent}
use Rattle.resolvo.specs.Resolvents.{is_marked, MarksAlso, StandsAt, IsLevelled, IsReason, IsSingle, IsAsserting, Negates, level_in}
use Rattle.resolvo.proofs.MarkLemmas.{unmarked-set}
use Rattle.resolvo.proofs.NegationLemmas.{negation}

-- the highest level of the first literals
pub record HighestSo (trail : Trail) (clause : List Literal) (count level : ℕ) : Type 0 where
  pub top : All (λ (literal : Literal). level_in trail literal.variable ≤ level) (take count clause)
  pub reached : (level ≡ 0) ⊎ Any (λ (literal : Literal). level_in trail literal.variable ≡ level) clause

pub highest-next : (trail : Trail) (clause : List Literal) (i : ℕ) (e : Literal) (level here new : ℕ) → i < length clause →
    here ≡ level_in trail (get_or clause i e).variable → HighestSo trail clause i level → level ≤ new → here ≤ new → (new ≡ here) ⊎ (new ≡ level) →
    HighestSo trail clause (i + 1) new
highest-next trail clause i e level here new within is so more least either = record {
  top = All-more (λ (literal : Literal). level_in trail literal.variable ≤ new) clause i e within
      (All-weaker (λ (literal : Literal). level_in trail literal.variable ≤ level) (λ (literal : Literal). level_in trail literal.variable ≤ new) (λ l low.
      omega (arith, low, more)) _ so.top) (omega (arith, is, least));
  reached = ⊎_elim
      (λ (now : new ≡ here). inr (i, get_or clause i e, within, search rules, sym is ∙ sym now))
      (λ (before : new ≡ level). subst (λ (n : ℕ). (n ≡ 0) ⊎ Any (λ (literal : Literal). level_in trail literal.variable ≡ n) clause) (sym before) so.reached)
      either;
}

-- the lowest place of the first literals
pub record LowestSo (trail : Trail) (clause : List Literal) (level start count lowest : ℕ) : Type 0 where
  pub low : lowest ≤ start
  pub least : All (λ (literal : Literal). (slot : Slot) → slot_of trail literal.variable ≡ Some slot → slot.level ≡ level → lowest ≤ slot.place)
      (take count clause)
  pub reached : (lowest ≡ start) ⊎ Any (λ (literal : Literal). StandsAt trail level lowest literal.variable) clause

pub lowest-next : (trail : Trail) (clause : List Literal) (level start i : ℕ) (e : Literal) (lowest new : ℕ) → i < length clause →
    LowestSo trail clause level start i lowest → new ≤ lowest →
    ((slot : Slot) → slot_of trail (get_or clause i e).variable ≡ Some slot → slot.level ≡ level → new ≤ slot.place) → (new ≡ lowest) ⊎
    StandsAt trail level new (get_or clause i e).variable → LowestSo trail clause level start (i + 1) new
lowest-next trail clause level start i e lowest new within so low least either =
    let P : ℕ → Literal → Type 0 = λ n literal. (slot : Slot) → slot_of trail literal.variable ≡ Some slot → slot.level ≡ level → n ≤ slot.place in
    record {
      low = omega (arith, low, so.low);
      least = All-more (P new) clause i e within (All-weaker (P lowest) (P new) (λ l is slot at of. omega (arith, is slot at of, low)) _ so.least) least;
      reached = ⊎_elim
          (λ (same : new ≡ lowest). subst (λ (n : ℕ). (n ≡ start) ⊎ Any (λ (literal : Literal). StandsAt trail level n literal.variable) clause)
          (sym same) so.reached)
          (λ (stands : StandsAt trail level new (get_or clause i e).variable). inr (i, get_or clause i e, within, search rules, stands))
          either;
    }

-- the backtrack level of the first literals
pub record IsBacktrackLevelSoFar (trail : Trail) (clause : List Literal) (asserted count level : ℕ) : Type 0 where
  pub top : All (λ (literal : Literal). (literal.variable ≡ asserted) ⊎ (level_in trail literal.variable ≤ level)) (take count clause)
  pub reached : (level ≡ 0) ⊎ Any (λ (literal : Literal). (literal.variable ≢ asserted) × (level_in trail literal.variable ≡ level)) clause

pub backtrack_level-same : (trail : Trail) (clause : List Literal) (asserted i : ℕ) (e : Literal) (level : ℕ) → i < length clause →
    (get_or clause i e).variable ≡ asserted → IsBacktrackLevelSoFar trail clause asserted i level → IsBacktrackLevelSoFar trail clause asserted (i + 1) level
backtrack_level-same trail clause asserted i e level within is so = record {
  top = All-more (λ (literal : Literal). (literal.variable ≡ asserted) ⊎ (level_in trail literal.variable ≤ level)) clause i e within so.top (inl is);
  reached = so.reached;
}

pub backtrack_level-next : (trail : Trail) (clause : List Literal) (asserted i : ℕ) (e : Literal) (level here new : ℕ) → i < length clause →
    (get_or clause i e).variable ≢ asserted → here ≡ level_in trail (get_or clause i e).variable → IsBacktrackLevelSoFar trail clause asserted i level →
    level ≤ new →
    here ≤ new → (new ≡ here) ⊎ (new ≡ level) → IsBacktrackLevelSoFar trail clause asserted (i + 1) new
backtrack_level-next trail clause asserted i e level here new within differ is so more least either =
    let P : ℕ → Literal → Type 0 = λ n literal. (literal.variable ≡ asserted) ⊎ (level_in trail literal.variable ≤ n) in
    record {
      top = All-more (P new) clause i e within
          (All-weaker (P level) (P new) (λ l low.
          ⊎_elim (λ same. inl same) (λ (below : level_in trail l.variable ≤ level). inr (omega (arith, below, more))) low) _ so.top)
          (inr (omega (arith, is, least)));
      reached = ⊎_elim
          (λ (now : new ≡ here). inr (i, get_or clause i e, within, search rules, (differ, sym is ∙ sym now)))
          (λ (before : new ≡ level). subst (λ (n : ℕ).
          (n ≡ 0) ⊎ Any (λ (literal : Literal). (literal.variable ≢ asserted) × (level_in trail literal.variable ≡ n)) clause) (sym before) so.reached)
          either;
    }

pub level-in : (trail : Trail) (variable : ℕ) (slot : Slot) → slot_of trail variable ≡ Some slot → level_in trail variable ≡ slot.level
level-in trail variable slot at = ap (λ o. option_map_or (λ (s : Slot). s.level) o 0) at

place-of : (trail : Trail) (variable : ℕ) (slot : Slot) → slot_of trail variable ≡ Some slot → place_of trail variable ≡ slot.place
place-of trail variable slot at = ap (λ o. option_map_or (λ (s : Slot). s.place) o 0) at

pub levelled-begin : (trail : Trail) (old : List Bool) (resolvent : Resolvent) (clause : List Literal) (end : ℕ) → end ≡ length_of trail →
    ((v : ℕ) → is_marked old v ≡ false) → MarksAlso old resolvent.marks.items clause → IsFalsified trail clause →
    All (λ (literal : Literal). level_in trail literal.variable ≤ resolvent.level) clause → (resolvent.level ≡ 0) ⊎
    Any (λ (literal : Literal). level_in trail literal.variable ≡ resolvent.level) clause →
    All (λ (literal : Literal). (slot : Slot) → slot_of trail literal.variable ≡ Some slot → slot.level ≡ resolvent.level →
    resolvent.lowest ≤ slot.place) clause →
    (resolvent.lowest ≡ end) ⊎ Any (λ (literal : Literal). StandsAt trail resolvent.level resolvent.lowest literal.variable) clause →
    IsLevelled trail resolvent (length_of trail)
levelled-begin trail old resolvent clause end end-is unmarked so falsified top highest least lowest = record {
  at_most = record {
    top = λ v s m at. ⊎_elim
        (λ (high : resolvent.level < s.level). absurd
        (both_ways _ (so.only v (unmarked v) (λ k d below.
        λ e. omega (arith, high, top k d below, ap (λ n. level_in trail n) e, level-in trail v s at))) m))
        (λ (low : s.level ≤ resolvent.level). low)
        (cases_lt resolvent.level s.level);
    least = λ v s m at level. ⊎_elim
        (λ (less : s.place < resolvent.lowest). absurd
        (both_ways _ (so.only v (unmarked v) (λ k d below. λ e. omega (arith, less, least k d below s (ap (λ n. slot_of trail n) e ∙ at) level))) m))
        (λ (more : resolvent.lowest ≤ s.place). more)
        (cases_lt s.place resolvent.lowest);
  };
  before = record { before = λ v s m at. (trail.listed v s at).0 };
  mark = λ some. ⊎_elim
      (λ (bottom : resolvent.level ≡ 0). absurd (omega arith))
      (λ (here : Any (λ (literal : Literal). level_in trail literal.variable ≡ resolvent.level) clause).
      let l = get_or clause here.0 here.1 in
      let v = value-false _ _ (falsified here.0 here.1 here.2) in
      let level : v.0.level ≡ resolvent.level = sym (level-in trail _ v.0 v.1) ∙ ap (λ (x : Literal). level_in trail x.variable) here.3 ∙ here.4 in
      ⊎_elim
      (λ (last : resolvent.lowest ≡ end). absurd (omega (arith, last, end-is, least here.0 here.1 here.2 v.0 v.1 level, (trail.listed _ _ v.1).0)))
      (λ (there : Any (λ (literal : Literal). StandsAt trail resolvent.level resolvent.lowest literal.variable) clause). record {
        variable = there.1.variable;
        marked = ap (λ (x : Literal). is_marked resolvent.marks.items x.variable) (sym there.3) ∙ so.all there.0 there.1 there.2;
        stands = there.4;
      })
      lowest)
      highest;
}

-- a mark that is left was there before, or belongs to an earlier variable of the reason
lowered : (table : List (List Literal)) (trail : Trail) (old mid : List Bool) (variable number : ℕ) (reason : IsReason trail variable number) →
    IsJustified table trail → MarksAlso old mid (clause_at table number) → (other : ℕ) (slot : Slot) → is_marked (set mid variable false) other ≡ true →
    slot_of trail other ≡ Some slot → (other ≢ variable) × (is_marked mid other ≡ true) ×
    ((is_marked old other ≡ true) ⊎ ((is_marked old other ≡ false) × (slot.place < reason.slot.place)))
lowered table trail old mid variable number reason justified so other slot m at =
    let s = reason.slot in
    let differ : other ≢ variable = λ e. both_ways _ (unmarked-set mid variable) (ap (λ k. is_marked (set mid variable false) k) (sym e) ∙ m) in
    let middle : is_marked mid other ≡ true = sym (get_or-set_other mid variable other false false differ) ∙ m in (
      differ,
      middle,
      ⊎_elim
          (λ yes. inl yes)
          (λ unmarked. ⊎_elim
          (λ (less : slot.place < s.place). inr (unmarked, less))
          (λ (more : s.place ≤ slot.place).
          let others : All (λ (l : Literal). l.variable ≢ other) (clause_at table number) = λ k d below. λ e. ⊎_elim
          (λ w. differ (sym e ∙ ap (λ (l : Literal). l.variable) w))
          (λ (f : IsFalseBefore trail s.place (get_or (clause_at table number) k d)).
          let same = same_Some _ _ (sym f.is ∙ ap (λ v. slot_of trail v) e ∙ at) in
          absurd (omega (arith, f.earlier, more, ap (λ (t : Slot). t.place) same)))
          (justified.forced variable s number reason.is reason.reason k d below) in
          absurd (both_ways _ (so.only other unmarked others) middle))
          (cases_lt slot.place s.place))
          (cases_Bool (is_marked old other)),
    )

same-place : (trail : Trail) (variable other : ℕ) (s t : Slot) → slot_of trail variable ≡ Some s → slot_of trail other ≡ Some t → s.place ≡ t.place →
    variable ≡ other
same-place trail variable other s t here there same = sym (trail.listed variable s here).1 ∙ ap (λ n. variable_at trail n) same ∙ (trail.listed other t there).1

-- a variable that is not the only one of the highest level is resolved away: that one stays the only one
pub single-below : (table : List (List Literal)) (trail : Trail) (old mid : List Bool) (level top variable number : ℕ) →
    IsJustified table trail → IsReason trail variable number → is_marked old variable ≡ true → variable ≢ top → MarksAlso old mid (clause_at table number) →
    IsSingle trail old level top → IsSingle trail (set mid variable false) level top
single-below table trail old mid level top variable number justified reason marked differ so single = record {
  slot = single.slot;
  is = single.is;
  marked = get_or-set_other mid variable top false false (λ e. differ (sym e)) ∙ so.kept top single.marked;
  level_is = single.level_is;
  others = λ u t m at ne.
      let f = lowered table trail old mid variable number reason justified so u t m at in
      ⊎_elim
      (λ yes. single.others u t yes at ne)
      (λ w. omega (arith, (trail.rising u variable t reason.slot at reason.is w.1).0, single.others variable reason.slot marked reason.is differ))
      f.2;
}

pub levelled-resolve : (table : List (List Literal)) (trail : Trail) (old new : Resolvent) (mid : List Bool) (variable number : ℕ) →
    IsJustified table trail → IsReason trail variable number → IsLevelled trail old (place_of trail variable + 1) → is_marked old.marks.items variable ≡ true →
    (0 < old.level → old.lowest < place_of trail variable) →
    MarksAlso old.marks.items mid (clause_at table number) → new.marks.items ≡ set mid variable false → new.level ≡ old.level → new.lowest ≤ old.lowest →
    All (λ (literal : Literal). (slot : Slot) → slot_of trail literal.variable ≡ Some slot → slot.level ≡ old.level → new.lowest ≤ slot.place)
    (clause_at table number) →
    (new.lowest ≡ old.lowest) ⊎ Any (λ (literal : Literal). StandsAt trail old.level new.lowest literal.variable) (clause_at table number) →
    IsLevelled trail new (place_of trail variable)
levelled-resolve table trail old new mid variable number justified reason levelled marked other so marks level low least lowest =
    let s = reason.slot in
    let place : place_of trail variable ≡ s.place = place-of trail variable s reason.is in
    let from : (u : ℕ) (t : Slot) → is_marked new.marks.items u ≡ true → slot_of trail u ≡ Some t → (u ≢ variable) × (is_marked mid u ≡ true) ×
    ((is_marked old.marks.items u ≡ true) ⊎ ((is_marked old.marks.items u ≡ false) × (t.place < s.place))) =
    λ u t m at. lowered table trail old.marks.items mid variable number reason justified so u t (ap (λ xs. is_marked xs u) (sym marks) ∙ m) at in
    let before : (u : ℕ) (t : Slot) → is_marked new.marks.items u ≡ true → slot_of trail u ≡ Some t → t.place < s.place = λ u t m at.
    let f = from u t m at in
    ⊎_elim
    (λ yes. ⊎_elim (λ (less : t.place < s.place). less) (λ (more : s.place ≤ t.place). absurd
    (f.0 (same-place trail u variable t s at reason.is (omega (arith, more, place, levelled.before.before u t yes at))))) (cases_lt t.place s.place))
    (λ w. w.1)
    f.2 in
    let high : s.level ≤ old.level = levelled.at_most.top variable s marked reason.is in
    record {
      at_most = record {
        top = λ u t m at. omega (arith, level, high, (trail.rising u variable t s at reason.is (before u t m at)).0);
        least = λ u t m at is. ⊎_elim
            (λ yes. omega (arith, low, levelled.at_most.least u t yes at (is ∙ level)))
            (λ w. ⊎_elim
            (λ (less : t.place < new.lowest). absurd
            (both_ways _ (so.only u w.0 (λ k d below. λ e. omega (arith, less, least k d below t (ap (λ n. slot_of trail n) e ∙ at) (is ∙ level))))
            (from u t m at).1))
            (λ (more : new.lowest ≤ t.place). more)
            (cases_lt t.place new.lowest))
            (from u t m at).2;
      };
      before = record { before = λ u t m at. omega (arith, before u t m at, place) };
      mark = λ some.
          let above : 0 < old.level = omega (arith, some, level) in
          let early = other above in
          ⊎_elim
          (λ (same : new.lowest ≡ old.lowest).
          let h = levelled.mark above in
          let differ : h.variable ≢ variable =
          λ e. omega (
            arith,
            early,
            place,
            h.stands.place_is,
            ap (λ (t : Slot). t.place) (same_Some _ _ (sym h.stands.is ∙ ap (λ n. slot_of trail n) e ∙ reason.is)),
          ) in
          record {
            variable = h.variable;
            marked = ap (λ xs. is_marked xs h.variable) marks ∙ get_or-set_other mid variable h.variable false false differ ∙ so.kept h.variable h.marked;
            stands = record { slot = h.stands.slot; is = h.stands.is; level_is = h.stands.level_is ∙ sym level; place_is = h.stands.place_is ∙ sym same };
          })
          (λ (there : Any (λ (literal : Literal). StandsAt trail old.level new.lowest literal.variable) (clause_at table number)).
          let st = there.4 in
          let differ : there.1.variable ≢ variable =
          λ e. omega (
            arith,
            early,
            low,
            place,
            st.place_is,
            ap (λ (t : Slot). t.place) (same_Some _ _ (sym st.is ∙ ap (λ n. slot_of trail n) e ∙ reason.is)),
          ) in
          record {
            variable = there.1.variable;
            marked = ap (λ xs. is_marked xs there.1.variable) marks ∙ get_or-set_other mid variable there.1.variable false false differ ∙
                ap (λ (x : Literal). is_marked mid x.variable) (sym there.3) ∙ so.all there.0 there.1 there.2;
            stands = record { slot = st.slot; is = st.is; level_is = st.level_is ∙ sym level; place_is = st.place_is };
          })
          lowest;
    }

pub levelled-skip : (trail : Trail) (resolvent : Resolvent) (high place variable : ℕ) → IsLevelled trail resolvent high → high ≡ place + 1 →
    variable ≡ variable_at trail place → is_marked resolvent.marks.items variable ≡ false → IsLevelled trail resolvent place
levelled-skip trail resolvent high place variable levelled next here unmarked = record {
  at_most = levelled.at_most;
  before = record {
    before = λ v s m at. ⊎_elim (λ less. less)
        (λ (more : place ≤ s.place).
        let named : v ≡ variable = sym (trail.listed v s at).1 ∙ ap (λ n. variable_at trail n) (omega (arith, more, next, levelled.before.before v s m at)) ∙
        sym here in
        absurd (both_ways _ unmarked (ap (λ k. is_marked resolvent.marks.items k) (sym named) ∙ m)))
        (cases_lt s.place place);
  };
  mark = levelled.mark;
}

pub single-found : (trail : Trail) (resolvent : Resolvent) (high place : ℕ) → IsLevelled trail resolvent high → high ≡ place + 1 → place ≡ resolvent.lowest →
    0 < resolvent.level → IsSingle trail resolvent.marks.items resolvent.level (variable_at trail resolvent.lowest)
single-found trail resolvent high place levelled next here some =
    let h = levelled.mark some in
    let named : h.variable ≡ variable_at trail resolvent.lowest = sym (trail.listed h.variable h.stands.slot h.stands.is).1 ∙
    ap (λ n. variable_at trail n) h.stands.place_is in
    record {
      slot = h.stands.slot;
      is = ap (λ v. slot_of trail v) (sym named) ∙ h.stands.is;
      marked = ap (λ v. is_marked resolvent.marks.items v) (sym named) ∙ h.marked;
      level_is = h.stands.level_is;
      others = λ u t m at ne. ⊎_elim (λ (less : t.level < resolvent.level). less)
          (λ (more : resolvent.level ≤ t.level).
          let same : t.level ≡ resolvent.level = omega (arith, more, levelled.at_most.top u t m at) in
          absurd (ne (same-place trail u h.variable t h.stands.slot at h.stands.is
          (omega (arith, next, here, h.stands.place_is, levelled.at_most.least u t m at same, levelled.before.before u t m at)) ∙ named)))
          (cases_lt t.level resolvent.level);
    }

-- if another marked variable has the level of the last one, the last one was not decided
pub never-decided : (trail : Trail) (resolvent : Resolvent) (high place variable : ℕ) (slot : Slot) → IsLevelled trail resolvent high → high ≡ place + 1 →
    is_marked resolvent.marks.items variable ≡ true → slot_of trail variable ≡ Some slot → slot.place ≡ place →
    (0 < resolvent.level → place ≢ resolvent.lowest) → is_decided slot.reason ≡ true → ⊥
never-decided trail resolvent high place variable slot levelled next marked at here other decided = ⊎_elim
    (λ (some : 0 < resolvent.level).
    let h = levelled.mark some in
    let early : h.stands.slot.place < slot.place =
    omega (arith, other some, next, here, h.stands.place_is, levelled.before.before h.variable h.stands.slot h.marked h.stands.is) in
    absurd (omega (
      arith,
      h.stands.level_is,
      levelled.at_most.top variable slot marked at,
      (trail.rising h.variable variable h.stands.slot slot h.stands.is at early).1 decided,
    )))
    (λ (none : resolvent.level ≤ 0). absurd (omega (arith, levelled.at_most.top variable slot marked at, (trail.counted variable slot at).1 decided)))
    (cases_lt 0 resolvent.level)

-- the learnt clause has only one literal of its highest level
pub asserting : (trail : Trail) (marks : List Bool) (literals : List Literal) (literal : Literal) (level backtrack_level variable : ℕ) →
    IsSingle trail marks level variable → Negates trail marks literals → 0 < level →
    ((slot : Slot) → slot_of trail variable ≡ Some slot → literal ≡ record { variable = variable; positive = not slot.value }) →
    All (λ (l : Literal). (l.variable ≡ variable) ⊎ (level_in trail l.variable ≤ backtrack_level)) literals → (backtrack_level ≡ 0) ⊎
    Any (λ (l : Literal). (l.variable ≢ variable) × (level_in trail l.variable ≡ backtrack_level)) literals → IsAsserting trail backtrack_level literal literals
asserting trail marks literals literal level backtrack_level variable single negates some negated top reached =
    let s = single.slot in
    let l-is = negated s single.is in
    let var-is : literal.variable ≡ variable = ap (λ (x : Literal). x.variable) l-is in
    record {
      contains = subst (λ x. Contains literals x) (sym l-is) (negates.each variable s single.marked single.is);
      slot = s;
      is = ap (λ v. slot_of trail v) var-is ∙ single.is;
      above = ⊎_elim
          (λ (bottom : backtrack_level ≡ 0). omega (arith, bottom, some, single.level_is))
          (λ (there : Any (λ (l : Literal). (l.variable ≢ variable) × (level_in trail l.variable ≡ backtrack_level)) literals).
          let v = value-false _ _ (negates.falsified there.0 there.1 there.2) in
          let name : (get_or literals there.0 there.1).variable ≡ there.1.variable = ap (λ (x : Literal). x.variable) there.3 in
          let here : slot_of trail there.1.variable ≡ Some v.0 = ap (λ n. slot_of trail n) (sym name) ∙ v.1 in
          let mark : is_marked marks there.1.variable ≡ true = ap (λ n. is_marked marks n) (sym name) ∙ negates.only there.0 there.1 there.2 in
          omega (arith, single.others there.1.variable v.0 mark here there.4.0, level-in trail there.1.variable v.0 here, there.4.1, single.level_is))
          reached;
      others = λ k d below.
          let l = get_or literals k d in
          let v = value-false _ _ (negates.falsified k d below) in
          ⊎_elim
          (λ (e : l.variable ≡ variable).
          let same : v.0 ≡ s = same_Some _ _ (sym v.1 ∙ ap (λ n. slot_of trail n) e ∙ single.is) in
          let sign : l.positive ≡ not s.value = beq-false _ _ v.2 ∙ ap (λ (t : Slot). not t.value) same in
          let back : negation variable s ≡ l = rw (← e, ← sign) refl in
          inl (sym back ∙ sym l-is))
          (λ (low : level_in trail l.variable ≤ backtrack_level). inr
          (record { slot = v.0; is = v.1; false_there = v.2; low = omega (arith, low, level-in trail l.variable v.0 v.1) }))
          (top k d below);
      reached = ⊎_elim
          (λ (bottom : backtrack_level ≡ 0). inl bottom)
          (λ (there : Any (λ (l : Literal). (l.variable ≢ variable) × (level_in trail l.variable ≡ backtrack_level)) literals). inr
          (there.0, there.1, there.2, there.3, (λ e. there.4.0 (ap (λ (x : Literal). x.variable) e ∙ var-is), there.4.1)))
          reached;
    }
