-- The invariant of propagation is kept when the trail gains literals, and in the end each clause is settled.
use Rattle.std.proofs.Common.{◌≡◌, ◌≢◌, ℕ, ◌*◌, ◌<◌, ◌≤◌, ◌⊎◌, List, [], length, get_or, Option, Some, None, Bool, true, false, inl, inr, refl, sym, ap, ◌∙◌, subst}
use Rattle.std.proofs.Common.{⊎_elim, arith}
use Rattle.std.specs.Prelude.{Any, Contains}
use Rattle.std.specs.Bool.{beq}
use Rattle.std.specs.Option.{option_map}
use Rattle.std.proofs.lemmas.Option.{same_Some}
use Rattle.resolver_clause_store.specs.Literals.{Literal}
use Rattle.resolver_clause_store.specs.declared.Slot.{Slot}
use Rattle.resolver_clause_store.specs.declared.Reason.{Reason}
use Rattle.resolver_clause_store.specs.declared.Trail.{Trail}
use Rattle.resolver_clause_store.specs.Formula.{clause_at}
use Rattle.resolver_clause_store.specs.Outcomes.{IsFalseBefore, IsSatisfied}
use Rattle.resolver_clause_store.specs.TrailView.{slot_of, length_of, literal_value, variable_at, variable_count, Gains}
use Rattle.resolver_clause_store.proofs.KeptLemmas.{keeps_all, slot_at}
use Rattle.resolver_clause_store.proofs.TrailLemmas.{Keeps, false-before, keeps-gains}
use Rattle.resolver_clause_store.specs.Settled.{AllSettled}
use Rattle.resolvo.specs.Propagators.{AreLate, IsAttached, IsExcused, IsNoted, IsPropagator, IsTrueAt, IsTrueBefore, IsWatchInvariant, attached_of, head_of}
use Rattle.resolver_clause_store.specs.Watches.{IsWatching, pair_at}
use Rattle.resolver_clause_store.proofs.WatchListLemmas.{cases_literal}
use Rattle.resolver_clause_store.specs.WatchesView.{lists_of, pairs_of}
use Rattle.resolvo.specs.declared.propagator.Late.{Late}
use Rattle.resolvo.specs.declared.propagator.Propagator.{Propagator}
use Rattle.resolver_clause_store.specs.declared.WatchedPair.{WatchedPair}

-- a property of some element
pub any-map : {X : Type 0} (P Q : X → Type 0) (xs : List X) → ((x : X) → P x → Q x) → Any P xs → Any Q xs
any-map P Q xs f h = (h.0, h.1, h.2, h.3, f h.1 h.4)

pub any-contains : {X : Type 0} (P : X → Type 0) (xs : List X) (x : X) → Contains xs x → P x → Any P xs
any-contains P xs x c h = (c.0, x, c.1, c.2, h)

-- a longer trail

-- a slot at a place of the old trail was there before
pub slot-back : (old new : Trail) → Keeps old new → (variable : ℕ) (slot : Slot) → slot_of new variable ≡ Some slot → slot.place < length_of old →
    slot_of old variable ≡ Some slot
slot-back old new keeps variable slot at less =
    let places = keeps_all old new keeps in
    let s = slot_at old slot.place less in
    let named : variable_at old slot.place ≡ variable = sym (places.variables slot.place less) ∙ (new.listed variable slot at).1 in
    let here : slot_of old variable ≡ Some s.0 = ap (λ v. slot_of old v) (sym named) ∙ s.1 in
    let one : s.0 ≡ slot = same_Some _ _ (sym (keeps.kept variable s.0 here) ∙ at) in
    here ∙ ap Some one

pub true_at-kept : (old new : Trail) (level : ℕ) (literal : Literal) → Keeps old new → IsTrueAt old level literal → IsTrueAt new level literal
true_at-kept old new level literal keeps t = record { slot = t.slot; is = keeps.kept _ _ t.is; true_there = t.true_there; low = t.low }

pub true_before-kept : (old new : Trail) (place : ℕ) (literal : Literal) → Keeps old new → IsTrueBefore old place literal → IsTrueBefore new place literal
true_before-kept old new place literal keeps t = record { slot = t.slot; is = keeps.kept _ _ t.is; true_there = t.true_there; earlier = t.earlier }

pub excused-kept : (table : List (List Literal)) (old new : Trail) (late : List Late) (pending : List ℕ) (level number : ℕ) → Keeps old new →
    IsExcused table old late pending level number → IsExcused table new late pending level number
excused-kept table old new late pending level number keeps excused = ⊎_elim
    (λ (h : Any (IsTrueAt old level) (clause_at table number)).
    inl (any-map (IsTrueAt old level) (IsTrueAt new level) (clause_at table number) (λ l t. true_at-kept old new level l keeps t) h))
    (λ (n : IsNoted late pending number). inr n)
    excused

pub covers-kept : (table : List (List Literal)) (old new : Trail) (pairs : List WatchedPair) (late : List Late) (pending : List ℕ) (head : ℕ) →
    Keeps old new → head ≤ length_of old → IsWatchInvariant table old pairs late pending head → IsWatchInvariant table new pairs late pending head
covers-kept table old new pairs late pending head keeps within covers = record {
  watched = λ number literal watching fails.
      let was : IsFalseBefore old head literal =
      search (slot-back old new keeps _ _ fails.is (omega (arith, fails.earlier, within))) in
      excused-kept table old new late pending fails.slot.level number keeps (covers.watched number literal watching was);
  constant = covers.constant;
}

pub late-kept : (table : List (List Literal)) (old new : Trail) (late : List Late) → Keeps old new → AreLate table old late → AreLate table new late
late-kept table old new late keeps noted = record {
  each = λ k d below. any-map (IsTrueBefore old (get_or late k d).length) (IsTrueBefore new (get_or late k d).length)
      (clause_at table (get_or late k d).number) (λ l t. true_before-kept old new _ l keeps t) (noted.each k d below);
  within = λ k d below. omega (arith, noted.within k d below, (keeps_all old new keeps).are);
  rising = noted.rising;
}

pub propagator-kept : (table : List (List Literal)) (old new : Trail) (it : Propagator) → Keeps old new →
    length (lists_of it.watches) ≡ 2 * variable_count new → IsPropagator table old it → IsPropagator table new it
propagator-kept table old new it keeps size was =
    let head : head_of it ≤ length_of new = omega (arith, was.head, (keeps_all old new keeps).are) in
    assumption (size, late-kept table old new _ keeps was.late, covers-kept table old new _ _ _ _ keeps was.head was.covers)

pub propagator-gains : (table : List (List Literal)) (old new : Trail) (it : Propagator) (literal : Literal) (level : ℕ) (reason : Reason) →
    Gains old new literal level reason → slot_of old literal.variable ≡ None → IsPropagator table old it → IsPropagator table new it
propagator-gains table old new it literal level reason gains free was =
    propagator-kept table old new it (keeps-gains old new literal level reason gains free) (was.lists ∙ ap (λ n. 2 * n) (sym gains.size)) was

-- the end of propagation

value-cases : (o : Option Bool) → (o ≡ None) ⊎ ((o ≡ Some true) ⊎ (o ≡ Some false))
value-cases None = inl refl
value-cases (Some true) = inr (inl refl)
value-cases (Some false) = inr (inr refl)

pub value-of : (trail : Trail) (literal : Literal) (slot : Slot) (value : Bool) → slot_of trail literal.variable ≡ Some slot →
    beq slot.value literal.positive ≡ value → literal_value trail literal ≡ Some value
value-of trail literal slot value is there = ap (λ (o : Option Slot). option_map (λ (s : Slot). beq s.value literal.positive) o) is ∙ ap Some there

pub late-true : (table : List (List Literal)) (trail : Trail) (late : List Late) (number : ℕ) → AreLate table trail late →
    Any (λ (l : Late). l.number ≡ number) late → IsSatisfied trail (clause_at table number)
late-true table trail late number noted h =
    let T : Late → Type 0 = λ (l : Late). Any (IsTrueBefore trail l.length) (clause_at table l.number) in
    let here : T h.1 = subst T h.3 (noted.each h.0 h.1 h.2) in
    let there : Any (IsTrueBefore trail h.1.length) (clause_at table number) =
    subst (λ (n : ℕ). Any (IsTrueBefore trail h.1.length) (clause_at table n)) h.4 here in
    any-map (IsTrueBefore trail h.1.length) (λ (l : Literal). literal_value trail l ≡ Some true) (clause_at table number) (λ l t.
    value-of trail l t.slot true t.is t.true_there) there

pub noted-true : (table : List (List Literal)) (trail : Trail) (late : List Late) (pending : List ℕ) (number : ℕ) → AreLate table trail late →
    pending ≡ [] → IsNoted late pending number → IsSatisfied trail (clause_at table number)
noted-true table trail late pending number noted none either = ⊎_elim
    (λ (h : Any (λ (l : Late). l.number ≡ number) late). late-true table trail late number noted h)
    (λ (c : Contains pending number). absurd (omega (arith, c.1, ap (λ (xs : List ℕ). length xs) none)))
    either

pub excused-true : (table : List (List Literal)) (trail : Trail) (late : List Late) (pending : List ℕ) (level number : ℕ) → AreLate table trail late →
    pending ≡ [] → IsExcused table trail late pending level number → IsSatisfied trail (clause_at table number)
excused-true table trail late pending level number noted none excused = ⊎_elim
    (λ (h : Any (IsTrueAt trail level) (clause_at table number)).
    any-map (IsTrueAt trail level) (λ (l : Literal). literal_value trail l ≡ Some true) (clause_at table number) (λ l t.
    value-of trail l t.slot true t.is t.true_there) h)
    (λ (n : IsNoted late pending number). noted-true table trail late pending number noted none n)
    excused

-- a watched literal has no value, or the clause is true
watched-settled : (table : List (List Literal)) (trail : Trail) (it : Propagator) → IsPropagator table trail it → IsAttached table it →
    length_of trail ≤ head_of it → (number : ℕ) (literal : Literal) → IsWatching (pairs_of it.watches) number literal → (literal_value trail literal ≡ None) ⊎
    IsSatisfied trail (clause_at table number)
watched-settled table trail it is attached done number literal watching = ⊎_elim
    (λ (free : literal_value trail literal ≡ None). inl free)
    (λ (valued : (literal_value trail literal ≡ Some true) ⊎ (literal_value trail literal ≡ Some false)). inr (⊎_elim
    (λ (yes : literal_value trail literal ≡ Some true).
    any-contains (λ (l : Literal). literal_value trail l ≡ Some true) (clause_at table number) literal (is.watched.own number literal watching) yes)
    (λ (no : literal_value trail literal ≡ Some false).
    let f = false-before trail literal no in
    let fails : IsFalseBefore trail (head_of it) literal =
    record { slot = f.slot; is = f.is; false_there = f.false_there; earlier = omega (arith, f.earlier, done) } in
    excused-true table trail _ _ _ number is.late attached.none (is.covers.watched number literal watching fails))
    valued))
    (value-cases (literal_value trail literal))

pub all-settled : (table : List (List Literal)) (trail : Trail) (it : Propagator) → IsPropagator table trail it → IsAttached table it →
    length_of trail ≤ head_of it → AllSettled trail table
all-settled table trail it is attached done = λ number within.
    let pair = pair_at (pairs_of it.watches) number in
    let inside : number < attached_of it = omega (arith, within, attached.all) in
    ⊎_elim
    (λ (none : pair.first ≡ pair.second). inl (noted-true table trail _ _ number is.late attached.none (is.covers.constant number inside none)))
    (λ (differ : pair.first ≢ pair.second).
    let first : IsWatching (pairs_of it.watches) number pair.first = record { differ = differ; is = inl refl } in
    let second : IsWatching (pairs_of it.watches) number pair.second = record { differ = differ; is = inr refl } in
    ⊎_elim
    (λ (free : literal_value trail pair.first ≡ None). ⊎_elim
    (λ (also : literal_value trail pair.second ≡ None). inr (record {
      first = pair.first;
      second = pair.second;
      has_first = is.watched.own number pair.first first;
      has_second = is.watched.own number pair.second second;
      differ = differ;
      first_open = free;
      second_open = also;
    }))
    (λ (yes : IsSatisfied trail (clause_at table number)). inl yes)
    (watched-settled table trail it is attached done number pair.second second))
    (λ (yes : IsSatisfied trail (clause_at table number)). inl yes)
    (watched-settled table trail it is attached done number pair.first first))
    (cases_literal pair.first pair.second)
