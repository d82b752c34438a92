-- The effect of a visit to a clause that watches a false literal.
use Rattle.std.proofs.Common.{◌≡◌, ◌≢◌, ℕ, ◌+◌, ◌-◌, ◌<◌, ◌≤◌, ◌⊎◌, List, [], ◌∷◌, ◌++◌, length, get_or, Option, Some, None, Bool, true, false, inl, inr, refl}
use Rattle.std.proofs.Common.{sym, ap, ◌∙◌, subst, ⊎_elim, arith}
use Rattle.std.specs.Prelude.{All, Any, count_by, Contains, IfSome, MatchOption, slice_get, if◌then◌else◌}
use Rattle.std.specs.Bool.{beq}
use Rattle.std.specs.Option.{is_none, option_eq, option_map_or}
use Rattle.std.proofs.lemmas.Bool.{cases_lt, cases_eq}
use Rattle.std.proofs.lemmas.List.Elements.{All-append, All-cons, All-nil, Contains-append_left}
use Rattle.std.proofs.lemmas.List.Quantifiers.{Any-push}
use Rattle.std.proofs.lemmas.Option.{same_Some, none-some, slice_get_within, get_or_from_slice_get, slice_get-get_or}
use Rattle.resolver_clause_store.specs.Slots.{is_decided}
use Rattle.resolvo.specs.Propagation.{ExtendsTrail, IsJustified, IsUnit, Propagates}
use Rattle.resolver_clause_store.specs.Literals.{Literal, list_number}
use Rattle.resolver_clause_store.specs.declared.Slot.{Slot}
use Rattle.resolver_clause_store.specs.declared.Reason.TheVariants.{Forced}
use Rattle.resolver_clause_store.specs.declared.Trail.{Trail}
use Rattle.resolver_clause_store.specs.Formula.{AreBelow, clause_at}
use Rattle.resolver_clause_store.specs.Outcomes.{IsSatisfied}
use Rattle.resolver_clause_store.specs.TrailView.{slot_of, length_of, level_of, literal_value, open_count, variable_at, variable_count, Gains, IsSame, IsTop}
use Rattle.resolver_clause_store.proofs.PlaceLemmas.{place_cases}
use Rattle.resolver_clause_store.proofs.TrailLemmas.{Keeps, gains-cases, keeps-gains, value-true}
use Rattle.resolver_clause_store.proofs.WatchListLemmas.{fit-at}
use Rattle.resolvo.specs.Propagators.{AreLate, AreWatched, IsExcused, IsNoted, IsPropagator, IsTrueAt, IsTrueBefore, IsWatchInvariant, attached_of, head_of}
use Rattle.resolvo.specs.Propagators.{late_of, pending_of}
use Rattle.resolvo.specs.Visits.{ContinuesVisit, IsPaired, IsReplacement, IsVisiting, IsWatchPlaced, IsWatchedAt, late_with, watchers_of}
use Rattle.resolver_clause_store.specs.Unsatisfied.{IsFirstUnsatisfied, IsNextUnsatisfied}
use Rattle.resolver_clause_store.specs.Watches.{FitClauses, HasLiteral, IsPair, IsWatching, MovesWatch, SameClauses, WatchesNothing, list_at, pair_at}
use Rattle.resolver_clause_store.specs.WatchesView.{lists_of, pairs_of}
use Rattle.resolvo.specs.declared.propagator.Late.{Late}
use Rattle.resolvo.specs.declared.propagator.Propagator.{Propagator}
use Rattle.resolvo.specs.declared.propagator.visiting.FalseLiteral.{FalseLiteral}
use Rattle.resolver_clause_store.specs.declared.PlacedWatch.{PlacedWatch}
use Rattle.resolver_clause_store.specs.declared.Watch.{Watch}
use Rattle.resolver_clause_store.specs.declared.WatchedPair.{WatchedPair}
use Rattle.resolver_clause_store.specs.declared.Watches.{Watches}
use Rattle.resolvo.proofs.JustifiedLemmas.{extends-gains, justified-gains, justified-same, same-slots}
use Rattle.resolvo.proofs.PropagatorLemmas.{any-contains, any-map, excused-kept, propagator-gains, value-of}

all-at : {X : Type 0} (P : X → Type 0) (xs : List X) (k : ℕ) (x : X) → All P xs → slice_get xs k ≡ Some x → P x
all-at P xs k x all at = subst P (get_or_from_slice_get xs k x x at) (all k x (slice_get_within xs k x at))

any-left : {X : Type 0} (P : X → Type 0) (xs ys : List X) → Any P xs → Any P (xs ++ ys)
any-left P xs ys h = any-contains P (xs ++ ys) h.1 (Contains-append_left xs ys h.1 (h.0, h.2, h.3)) h.4

pub below-contains : (table : List (List Literal)) (variables number : ℕ) (literal : Literal) → AreBelow variables table →
    Contains (clause_at table number) literal → literal.variable < variables
below-contains table variables number literal below c = subst (λ (l : Literal). l.variable < variables) c.2 (below number c.0 literal c.1)

-- the blockers have a slot
pub blockers-below : (table : List (List Literal)) (trail : Trail) (it : Propagator) (literal : Literal) → AreBelow (variable_count trail) table →
    IsPropagator table trail it → All (λ (watch : Watch). watch.blocker.variable < variable_count trail) (watchers_of it literal)
blockers-below table trail it literal below propagator k d inside =
    let watch = get_or (watchers_of it literal) k d in
    below-contains table (variable_count trail) watch.number watch.blocker below (propagator.watched.fit (list_number literal) k d inside).own

-- a clause that is true

satisfied-low : (trail : Trail) (clause : List Literal) (level : ℕ) → IsTop trail level → IsSatisfied trail clause → Any (IsTrueAt trail level) clause
satisfied-low trail clause level top h =
    any-map (λ (l : Literal). literal_value trail l ≡ Some true) (IsTrueAt trail level) clause (λ l e.
    let v = value-true _ _ e in record { slot = v.0; is = v.1; true_there = v.2; low = top _ v.0 v.1 }) h

pub satisfied-before : (trail : Trail) (clause : List Literal) → IsSatisfied trail clause → Any (IsTrueBefore trail (length_of trail)) clause
satisfied-before trail clause h =
    any-map (λ (l : Literal). literal_value trail l ≡ Some true) (IsTrueBefore trail (length_of trail)) clause (λ l e.
    let v = value-true _ _ e in record { slot = v.0; is = v.1; true_there = v.2; earlier = (trail.listed _ _ v.1).0 }) h

-- a true clause is noted
pub record NotesMore (table : List (List Literal)) (trail : Trail) (old new : List Late) (pending : List ℕ) (attached level number : ℕ) : Type 0 where
  pub late : AreLate table trail new
  pub inside : All (λ (l : Late). l.number < attached) new
  pub kept : (n : ℕ) → IsNoted old pending n → IsNoted new pending n
  pub excused : IsExcused table trail new pending level number

pub late-pushed : (table : List (List Literal)) (trail : Trail) (late : List Late) (number : ℕ) → AreLate table trail late →
    IsSatisfied trail (clause_at table number) → AreLate table trail (late ++ record { number = number; length = length_of trail } ∷ [])
late-pushed table trail late number noted satisfied =
    let last : Late = record { number = number; length = length_of trail } in
    let Each : Late → Type 0 = λ (l : Late). Any (IsTrueBefore trail l.length) (clause_at table l.number) in
    let Within : Late → Type 0 = λ (l : Late). l.length ≤ length_of trail in
    record {
      each = All-append Each late (last ∷ []) noted.each (All-cons Each last [] (satisfied-before trail (clause_at table number) satisfied) (All-nil Each));
      within = All-append Within late (last ∷ []) noted.within (All-cons Within last [] (omega arith) (All-nil Within));
      rising = λ k n early later less at to. ⊎_elim
          (λ (was : slice_get late n ≡ Some later). ⊎_elim
          (λ (first : slice_get late k ≡ Some early). noted.rising k n early later less first was)
          (λ (end : (k ≡ length late) × (last ≡ early)). absurd (omega (arith, end.0, less, slice_get_within late n later was)))
          (place_cases late last k early at))
          (λ (end : (n ≡ length late) × (last ≡ later)).
          let long : length_of trail ≡ later.length = ap (λ (l : Late). l.length) end.1 in
          ⊎_elim
          (λ (first : slice_get late k ≡ Some early). omega (arith, long, all-at Within late k early noted.within first))
          (λ (also : (k ≡ length late) × (last ≡ early)). absurd (omega (arith, also.0, end.0, less)))
          (place_cases late last k early at))
          (place_cases late last n later to);
    }

pub noted-more : (late : List Late) (last : Late) (pending : List ℕ) (n : ℕ) → IsNoted late pending n → IsNoted (late ++ last ∷ []) pending n
noted-more late last pending n noted = ⊎_elim
    (λ (h : Any (λ (l : Late). l.number ≡ n) late). inl (any-left (λ (l : Late). l.number ≡ n) late (last ∷ []) h))
    (λ (c : Contains pending n). inr c)
    noted

notes : (b : Bool) (table : List (List Literal)) (trail : Trail) (old new : List Late) (pending : List ℕ) (attached level number : ℕ) →
    AreLate table trail old → All (λ (l : Late). l.number < attached) old → number < attached → IsSatisfied trail (clause_at table number) →
    (b ≡ true → IsTop trail level) → new ≡ (if b then old else old ++ record { number = number; length = length_of trail } ∷ []) →
    NotesMore table trail old new pending attached level number
notes true table trail old new pending attached level number noted within inside satisfied top is =
    let N : List Late → Type 0 = λ l. NotesMore table trail old l pending attached level number in
    subst N (sym is) (record {
      late = noted;
      inside = within;
      kept = λ n h. h;
      excused = inl (satisfied-low trail (clause_at table number) level (top refl) satisfied);
    })
notes false table trail old new pending attached level number noted within inside satisfied top is =
    let N : List Late → Type 0 = λ l. NotesMore table trail old l pending attached level number in
    let last : Late = record { number = number; length = length_of trail } in
    let Inside : Late → Type 0 = λ (l : Late). l.number < attached in
    subst N (sym is) (record {
      late = late-pushed table trail old number noted satisfied;
      inside = All-append Inside old (last ∷ []) within (All-cons Inside last [] inside (All-nil Inside));
      kept = noted-more old last pending;
      excused = inr (inl (Any-push (λ (l : Late). l.number ≡ number) old last refl));
    })

excused-noted : (table : List (List Literal)) (trail : Trail) (old new : List Late) (pending : List ℕ) (level number : ℕ) →
    (IsNoted old pending number → IsNoted new pending number) → IsExcused table trail old pending level number → IsExcused table trail new pending level number
excused-noted table trail old new pending level number more excused = ⊎_elim
    (λ (h : Any (IsTrueAt trail level) (clause_at table number)). inl h)
    (λ (n : IsNoted old pending number). inr (more n))
    excused

pub covers-noted : (table : List (List Literal)) (trail : Trail) (pairs : List WatchedPair) (old new : List Late) (pending : List ℕ) (head : ℕ) →
    ((n : ℕ) → IsNoted old pending n → IsNoted new pending n) → IsWatchInvariant table trail pairs old pending head →
    IsWatchInvariant table trail pairs new pending head
covers-noted table trail pairs old new pending head more covers = record {
  watched = λ number literal watching fails. excused-noted table trail old new pending _ number (more number) (covers.watched number literal watching fails);
  constant = λ number inside none. more number (covers.constant number inside none);
}

-- a clause that is passed by
pub passes : (table : List (List Literal)) (trail : Trail) (old new : Propagator) (falsified : FalseLiteral) (place number : ℕ) →
    IsVisiting table trail old falsified place → IsWatchedAt (watchers_of old falsified.literal) place number → number < attached_of old →
    IsSatisfied trail (clause_at table number) → new.watches ≡ old.watches → new.pending ≡ old.pending → new.head ≡ old.head →
    late_of new ≡ late_with (late_of old) falsified number (length_of trail) →
    ContinuesVisit table trail old new falsified place (place + 1)
passes table trail old new falsified place number v stands inside satisfied watches pending head late =
    let made : Propagator = record { watches = old.watches; late = new.late; pending = old.pending; head = old.head } in
    let w = sym watches in
    let p = sym pending in
    let h = sym head in
    let same : made ≡ new = λ i. record { watches = w i; late = new.late; pending = p i; head = h i } in
    let was = v.propagator in
    let n = notes falsified.is_top table trail (late_of old) (late_of new) (pending_of old)
    (attached_of old) falsified.level number was.late was.inside inside satisfied v.fails.top late in
    let E : ℕ → Type 0 = λ m. IsExcused table trail (late_of new) (pending_of old) falsified.level m in
    let G : Propagator → Type 0 = λ it. ContinuesVisit table trail old it falsified place (place + 1) in
    subst G same (record {
      visiting = record {
        below = v.below;
        propagator = record {
          lists = was.lists;
          watched = was.watched;
          late = n.late;
          pending = was.pending;
          inside = n.inside;
          head = was.head;
          covers = covers-noted table trail (pairs_of old.watches) (late_of old) (late_of new) (pending_of old) (head_of old) n.kept was.covers;
        };
        attached = record { all = v.attached.all; none = v.attached.none };
        fails = v.fails;
        excused = record {
          each = λ k watch less at. ⊎_elim
              (λ (before : k < place). excused-noted table trail (late_of old) (late_of new) (pending_of old) _ _ (n.kept watch.number)
              (v.excused.each k watch before at))
              (λ (behind : place ≤ k).
              let here : k ≡ place = omega (arith, less, behind) in
              let one : watch ≡ stands.watch = same_Some _ _ (sym at ∙ ap (λ m. slice_get (watchers_of old falsified.literal) m) here ∙ stands.is) in
              subst E (sym (ap (λ (x : Watch). x.number) one ∙ stands.named)) n.excused)
              (cases_lt k place);
        };
      };
      head = refl;
      within = omega (arith, slice_get_within _ place stands.watch stands.is);
      fewer = omega (arith, slice_get_within _ place stands.watch stands.is);
    })

abbrev pub with_watches : Propagator → Watches → Propagator
with_watches it watches = record { watches = watches; late = it.late; pending = it.pending; head = it.head }

-- watchers whose blockers are true
pub passes-satisfied : (table : List (List Literal)) (trail : Trail) (it : Propagator) (falsified : FalseLiteral) (from place : ℕ) →
    falsified.is_top ≡ true → IsFirstUnsatisfied trail (watchers_of it falsified.literal) from place → IsVisiting table trail it falsified from →
    IsVisiting table trail it falsified place
passes-satisfied table trail it falsified from place top first v = record {
  below = v.below;
  propagator = v.propagator;
  attached = v.attached;
  fails = v.fails;
  excused = record {
    each = λ k watch less at. ⊎_elim
        (λ (before : k < from). v.excused.each k watch before at)
        (λ (behind : from ≤ k). inl (satisfied-low trail (clause_at table watch.number) falsified.level (v.fails.top top)
        (any-contains (λ (l : Literal). literal_value trail l ≡ Some true) (clause_at table watch.number) watch.blocker
        (fit-at table (lists_of it.watches) (list_number falsified.literal) k watch v.propagator.watched.fit at).own
        (first.passed k watch behind less at))))
        (cases_lt k from);
  };
}

-- a watch that stands in the list
pub stands-placed : (watchers : List Watch) (placed : PlacedWatch) → IsWatchPlaced watchers placed → IsWatchedAt watchers placed.place placed.watch.number
stands-placed watchers placed is = record { watch = placed.watch; is = is; named = refl }

-- the next watcher to visit
pub next-unsatisfied : (trail : Trail) (it : Propagator) (falsified : FalseLiteral) (from : ℕ) (result : Option PlacedWatch) → falsified.is_top ≡ true →
    MatchOption result (IsFirstUnsatisfied trail (watchers_of it falsified.literal) from (length (watchers_of it falsified.literal)))
    (IsNextUnsatisfied trail (watchers_of it falsified.literal) from) → (table : List (List Literal)) → IsVisiting table trail it falsified from →
    MatchOption result (IsVisiting table trail it falsified (length (watchers_of it falsified.literal))) (λ placed. IsVisiting table trail it falsified placed.place)
next-unsatisfied trail it falsified from None top first table v = passes-satisfied table trail it falsified from _ top first v
next-unsatisfied trail it falsified from (Some placed) top next table v = passes-satisfied table trail it falsified from placed.place top next.first v

pub next-placed : (trail : Trail) (it : Propagator) (falsified : FalseLiteral) (from : ℕ) (result : Option PlacedWatch) →
    from ≤ length (watchers_of it falsified.literal) → MatchOption result (length (watchers_of it falsified.literal) ≤ from)
    (λ placed. (placed.place ≡ from) × (slice_get (watchers_of it falsified.literal) from ≡ Some placed.watch)) → (table : List (List Literal)) →
    IsVisiting table trail it falsified from →
    MatchOption result (IsVisiting table trail it falsified (length (watchers_of it falsified.literal))) (λ placed. IsVisiting table trail it falsified placed.place)
next-placed trail it falsified from None within past table v = subst (λ n. IsVisiting table trail it falsified n) (omega (arith, within, past)) v
next-placed trail it falsified from (Some placed) within is table v = subst (λ n. IsVisiting table trail it falsified n) (sym is.0) v

pub is-unsatisfied : (trail : Trail) (watchers : List Watch) (from : ℕ) (result : Option PlacedWatch) →
    MatchOption result (IsFirstUnsatisfied trail watchers from (length watchers)) (IsNextUnsatisfied trail watchers from) →
    IfSome result (λ placed. IsWatchPlaced watchers placed × (from ≤ placed.place))
is-unsatisfied trail watchers from None first = tt
is-unsatisfied trail watchers from (Some placed) next = (next.is, next.first.above)

pub is-placed : (watchers : List Watch) (from : ℕ) (result : Option PlacedWatch) →
    MatchOption result (length watchers ≤ from) (λ placed. (placed.place ≡ from) × (slice_get watchers from ≡ Some placed.watch)) →
    IfSome result (λ placed. IsWatchPlaced watchers placed × (from ≤ placed.place))
is-placed watchers from None past = tt
is-placed watchers from (Some placed) is = (ap (λ n. slice_get watchers n) is.0 ∙ is.1, omega (arith, is.0))

-- the list of the literal was brought to hand
pub brought : (table : List (List Literal)) (trail : Trail) (it : Propagator) (watches : Watches) → lists_of watches ≡ lists_of it.watches →
    pairs_of watches ≡ pairs_of it.watches → IsPropagator table trail it → IsPropagator table trail (with_watches it watches)
brought table trail it watches lists pairs is =
    record {
      lists = ap (λ (ls : List (List Watch)). length ls) lists ∙ is.lists;
      watched = subst (λ (ls : List (List Watch)). AreWatched table ls (pairs_of watches)) (sym lists)
          (subst (λ (ps : List WatchedPair). AreWatched table (lists_of it.watches) ps) (sym pairs) is.watched);
      late = is.late;
      pending = subst (λ (ps : List WatchedPair). All (λ n. n < length ps) (pending_of it)) (sym pairs) is.pending;
      inside = subst (λ (ps : List WatchedPair). All (λ (l : Late). l.number < length ps) (late_of it)) (sym pairs) is.inside;
      head = is.head;
      covers = subst (λ (ps : List WatchedPair). IsWatchInvariant table trail ps (late_of it) (pending_of it) (head_of it)) (sym pairs) is.covers;
    }

-- a new blocker
pub sets : (table : List (List Literal)) (trail : Trail) (old : Propagator) (watches : Watches) (falsified : FalseLiteral) (place : ℕ) →
    IsVisiting table trail old falsified place → SameClauses (lists_of old.watches) (lists_of watches) → pairs_of watches ≡ pairs_of old.watches →
    FitClauses table (lists_of watches) → IsVisiting table trail (with_watches old watches) falsified place
sets table trail old watches falsified place v same pairs fit =
    let was = v.propagator in
    let w = was.watched in
    let back = sym pairs in
    let A : List WatchedPair → Type 0 = λ ps. AreWatched table (lists_of watches) ps in
    let C : List WatchedPair → Type 0 = λ ps. IsWatchInvariant table trail ps (late_of old) (pending_of old) (head_of old) in
    let N : List WatchedPair → Type 0 = λ ps. All (λ (number : ℕ). number < length ps) (pending_of old) in
    let L : List WatchedPair → Type 0 = λ ps. All (λ (l : Late). l.number < length ps) (late_of old) in
    let E : ℕ → Type 0 = λ m. IsExcused table trail (late_of old) (pending_of old) falsified.level m in
    record {
      below = v.below;
      propagator = record {
        lists = same.size ∙ was.lists;
        watched = subst A back (record { attached = w.attached; own = w.own; constant = w.constant; fit = fit });
        late = was.late;
        pending = subst N back was.pending;
        inside = subst L back was.inside;
        head = was.head;
        covers = subst C back was.covers;
      };
      attached = record { all = ap (λ (ps : List WatchedPair). length ps) pairs ∙ v.attached.all; none = v.attached.none };
      fails = v.fails;
      excused = record {
        each = λ k watch less at.
            let b = same.back (list_number falsified.literal) k watch at in
            subst E b.2 (v.excused.each k b.0 less b.1);
      };
    }

pub stands-same : (old new : List (List Watch)) (list place number : ℕ) → SameClauses old new → IsWatchedAt (list_at old list) place number →
    IsWatchedAt (list_at new list) place number
stands-same old new list place number same stands =
    let inside : place < length (list_at new list) = omega (arith, slice_get_within (list_at old list) place stands.watch stands.is, same.count list) in
    let at = slice_get-get_or (list_at new list) place stands.watch inside in
    let b = same.back list place (get_or (list_at new list) place stands.watch) at in
    let one : b.0 ≡ stands.watch = same_Some _ _ (sym b.1 ∙ stands.is) in
    record { watch = get_or (list_at new list) place stands.watch; is = at; named = sym b.2 ∙ ap (λ (x : Watch). x.number) one ∙ stands.named }

-- the two literals that a clause watches

pub paired-other : (pairs : List WatchedPair) (number : ℕ) (one other : Literal) → one ≢ other → IsPair (pair_at pairs number) one other →
    IsWatching pairs number other
paired-other pairs number one other differ pair =
    let Has : WatchedPair → Type 0 = λ p. HasLiteral p other in
    ⊎_elim
    (λ (e : pair_at pairs number ≡ record { first = one; second = other }). subst Has (sym e) (record { differ = differ; is = inr refl }))
    (λ (e : pair_at pairs number ≡ record { first = other; second = one }).
    subst Has (sym e) (record { differ = λ same. differ (sym same); is = inl refl }))
    pair

pair-either : (pair : WatchedPair) (one other literal : Literal) → IsPair pair one other → HasLiteral pair literal → (literal ≡ one) ⊎ (literal ≡ other)
pair-either pair one other literal is has = ⊎_elim
    (λ (e : pair ≡ record { first = one; second = other }). ⊎_elim
    (λ (f : pair.first ≡ literal). inl (sym f ∙ ap (λ (p : WatchedPair). p.first) e))
    (λ (s : pair.second ≡ literal). inr (sym s ∙ ap (λ (p : WatchedPair). p.second) e))
    has.is)
    (λ (e : pair ≡ record { first = other; second = one }). ⊎_elim
    (λ (f : pair.first ≡ literal). inr (sym f ∙ ap (λ (p : WatchedPair). p.first) e))
    (λ (s : pair.second ≡ literal). inl (sym s ∙ ap (λ (p : WatchedPair). p.second) e))
    has.is)
    is

-- a third literal is not watched
pub paired-only : (pairs : List WatchedPair) (number : ℕ) (one other third : Literal) → IsPaired pairs number one other → third ≢ one → other ≢ third →
    IsWatching pairs number third → ⊥
paired-only pairs number one other third pair differ distinct watching = ⊎_elim
    (λ (e : third ≡ one). differ e)
    (λ (e : third ≡ other). distinct (sym e))
    (pair-either (pair_at pairs number) one other third pair.is watching)

pub paired : (pairs : List WatchedPair) (number : ℕ) (literal found : Literal) → IsWatching pairs number literal →
    ((other : Literal) → literal ≢ other → IsPair (pair_at pairs number) literal other → found ≡ other) → IsPaired pairs number literal found
paired pairs number literal found watching only =
    let pair = pair_at pairs number in
    let P : Literal → Type 0 = λ l. IsPaired pairs number literal l in
    let make : (other : Literal) → literal ≢ other → IsPair pair literal other → IsPaired pairs number literal found =
    λ other differ is. subst P (sym (only other differ is)) (record { is = is; differ = differ }) in
    ⊎_elim
    (λ (f : pair.first ≡ literal).
    make pair.second (λ same. watching.differ (f ∙ same)) (inl (λ i. record { first = f i; second = pair.second })))
    (λ (s : pair.second ≡ literal).
    make pair.first (λ same. watching.differ (sym (s ∙ same))) (inr (λ i. record { first = pair.first; second = s i })))
    watching.is

-- a watch that has moved
pub moves : (table : List (List Literal)) (trail : Trail) (old : Propagator) (watches : Watches) (falsified : FalseLiteral) (place number : ℕ)
    (other to : Literal) → IsVisiting table trail old falsified place →
    MovesWatch (lists_of old.watches) (lists_of watches) (pairs_of old.watches) (pairs_of watches) falsified.literal to place number →
    FitClauses table (lists_of watches) → IsPaired (pairs_of old.watches) number falsified.literal other →
    IsReplacement trail (clause_at table number) other to →
    place < length (watchers_of old falsified.literal) → ContinuesVisit table trail old (with_watches old watches) falsified place place
moves table trail old watches falsified place number other to v m fit p r within =
    let was = v.propagator in
    let w = was.watched in
    let before = pairs_of old.watches in
    let after = pairs_of watches in
    let here : IsPair (pair_at after number) to other = m.here other p.differ p.is in
    let of_old : (n : ℕ) (literal : Literal) → n ≢ number → IsWatching after n literal → IsWatching before n literal = λ n literal ne watching.
    let W : WatchedPair → Type 0 = λ (pair : WatchedPair). HasLiteral pair literal in
    subst W (m.others n ne) watching
    in
    let of_new : (n : ℕ) (literal : Literal) → n ≡ number → IsWatching after n literal → (literal ≡ to) ⊎ (literal ≡ other) = λ n literal e watching.
    pair-either (pair_at after number) to other literal here (subst (λ k. IsWatching after k literal) e watching)
    in
    record {
      visiting = record {
        below = v.below;
        propagator = record {
          lists = m.size ∙ was.lists;
          watched = record {
            attached = omega (arith, w.attached, m.attached);
            own = λ n literal watching. ⊎_elim
                (λ (e : n ≡ number). subst (λ k. Contains (clause_at table k) literal) (sym e) (⊎_elim
                (λ (t : literal ≡ to). subst (λ (l : Literal). Contains (clause_at table number) l) (sym t) r.inside)
                (λ (o : literal ≡ other). subst (λ (l : Literal). Contains (clause_at table number) l) (sym o)
                (w.own number other (paired-other before number falsified.literal other p.differ p.is)))
                (of_new n literal e watching)))
                (λ (ne : n ≢ number). w.own n literal (of_old n literal ne watching))
                (cases_eq n number);
            constant = λ n inside none. ⊎_elim
                (λ (e : n ≡ number). absurd ((paired-other after number to other (λ same. r.differ (sym same)) here).differ
                (subst (λ k. WatchesNothing (pair_at after k)) e none)))
                (λ (ne : n ≢ number). w.constant n (omega (arith, inside, m.attached)) (subst (λ (p : WatchedPair). WatchesNothing p) (m.others n ne) none))
                (cases_eq n number);
            fit = fit;
          };
          late = was.late;
          pending = λ k d below. omega (arith, was.pending k d below, m.attached);
          inside = λ k d below. omega (arith, was.inside k d below, m.attached);
          head = was.head;
          covers = record {
            watched = λ n literal watching fails. ⊎_elim
                (λ (e : n ≡ number). ⊎_elim
                (λ (t : literal ≡ to). absurd (r.not_false
                (ap (λ (l : Literal). literal_value trail l) (sym t) ∙ value-of trail literal fails.slot false fails.is fails.false_there)))
                (λ (o : literal ≡ other).
                let watched_before : IsWatching before number literal =
                subst (λ (l : Literal). IsWatching before number l) (sym o) (paired-other before number falsified.literal other p.differ p.is) in
                subst (λ k. IsExcused table trail (late_of old) (pending_of old) fails.slot.level k) (sym e)
                (was.covers.watched number literal watched_before fails))
                (of_new n literal e watching))
                (λ (ne : n ≢ number). was.covers.watched n literal (of_old n literal ne watching) fails)
                (cases_eq n number);
            constant = λ n inside none. ⊎_elim
                (λ (e : n ≡ number). absurd ((paired-other after number to other (λ same. r.differ (sym same)) here).differ
                (subst (λ k. WatchesNothing (pair_at after k)) e none)))
                (λ (ne : n ≢ number). was.covers.constant n (omega (arith, inside, m.attached)) (subst (λ (p : WatchedPair). WatchesNothing p) (m.others n ne) none))
                (cases_eq n number);
          };
        };
        attached = record { all = m.attached ∙ v.attached.all; none = v.attached.none };
        fails = v.fails;
        excused = record { each = λ k watch less at. v.excused.each k watch less (sym (m.first k less) ∙ at) };
      };
      head = refl;
      within = omega (arith, m.shorter, within);
      fewer = omega (arith, m.shorter, within);
    }

-- a literal that is forced

level-top : (o : Option Slot) (level : ℕ) → ((slot : Slot) → o ≡ Some slot → slot.level ≤ level) → option_map_or (λ (slot : Slot). slot.level) o 0 ≤ level
level-top None level top = omega arith
level-top (Some slot) level top = top slot refl

top-gains : (old new : Trail) (literal : Literal) (number level : ℕ) → Gains old new literal (level_of old) (Forced number) → IsTop old level → IsTop new level
top-gains old new literal number level gains top = λ variable slot at. ⊎_elim
    (λ w. omega (arith, ap (λ (s : Slot). s.level) w.1, level-top (slot_of old (variable_at old (length_of old - 1))) level (λ s is. top _ s is)))
    (λ w. top variable slot w)
    (gains-cases old new literal (level_of old) _ gains variable slot at)

pub forces : (table : List (List Literal)) (old new : Trail) (it : Propagator) (falsified : FalseLiteral) (place number : ℕ) (literal : Literal) →
    IsVisiting table old it falsified place → Gains old new literal (level_of old) (Forced number) → slot_of old literal.variable ≡ None →
    IsVisiting table new it falsified place
forces table old new it falsified place number literal v gains free =
    let keeps : Keeps old new = keeps-gains old new literal (level_of old) _ gains free in
    let f = v.fails in
    record {
      below = subst (λ n. AreBelow n table) (sym gains.size) v.below;
      propagator = propagator-gains table old new it literal (level_of old) _ gains free v.propagator;
      attached = v.attached;
      fails = record {
        slot = f.slot;
        is = keeps.kept _ _ f.is;
        false_there = f.false_there;
        placed = f.placed;
        level = f.level;
        top = λ e. top-gains old new literal number falsified.level gains (f.top e);
      };
      excused = record { each = λ k watch less at. excused-kept table old new _ _ _ watch.number keeps (v.excused.each k watch less at) };
    }

-- the end of a visit

other_value : (v a b : Bool) → beq v a ≡ false → beq v b ≡ false → a ≡ b
other_value true true b is also = absurd cc
other_value true false true is also = absurd cc
other_value true false false is also = refl
other_value false true true is also = refl
other_value false true false is also = absurd cc
other_value false false b is also = absurd cc

pub visited : (table : List (List Literal)) (trail : Trail) (it : Propagator) (falsified : FalseLiteral) (count : ℕ) →
    IsVisiting table trail it falsified count → length (watchers_of it falsified.literal) ≤ count →
    ((number : ℕ) → IsWatching (pairs_of it.watches) number falsified.literal → (place : ℕ) × IsWatchedAt (watchers_of it falsified.literal) place number) →
    IsPropagator table trail (record { watches = it.watches; late = it.late; pending = it.pending; head = it.head + 1 })
visited table trail it falsified count v all stands =
    let was = v.propagator in
    let f = v.fails in
    let pairs = pairs_of it.watches in
    record {
      lists = was.lists;
      watched = was.watched;
      late = was.late;
      pending = was.pending;
      inside = was.inside;
      head = omega (arith, f.placed, (trail.listed _ _ f.is).0);
      covers = record {
        watched = λ n literal watching fails. ⊎_elim
            (λ (before : fails.slot.place < head_of it). was.covers.watched n literal watching
            (record { slot = fails.slot; is = fails.is; false_there = fails.false_there; earlier = before }))
            (λ (behind : head_of it ≤ fails.slot.place).
            let here : fails.slot.place ≡ f.slot.place = omega (arith, behind, fails.earlier, f.placed) in
            let named : literal.variable ≡ falsified.literal.variable = sym (trail.listed _ _ fails.is).1 ∙ ap (λ k. variable_at trail k) here ∙
            (trail.listed _ _ f.is).1 in
            let one : fails.slot ≡ f.slot = same_Some _ _ (sym fails.is ∙ ap (λ k. slot_of trail k) named ∙ f.is) in
            let sign : literal.positive ≡ falsified.literal.positive =
            other_value f.slot.value literal.positive falsified.literal.positive
            (subst (λ (s : Slot). beq s.value literal.positive ≡ false) one fails.false_there) f.false_there in
            let same : literal ≡ falsified.literal = λ i. record { variable = named i; positive = sign i } in
            let s = stands n (subst (λ (l : Literal). IsWatching pairs n l) same watching) in
            let level : falsified.level ≡ fails.slot.level = sym f.level ∙ ap (λ (x : Slot). x.level) (sym one) in
            let e = v.excused.each s.0 s.1.watch (omega (arith, all, slice_get_within _ s.0 s.1.watch s.1.is)) s.1.is in
            subst (λ m. IsExcused table trail (late_of it) (pending_of it) m n) level
            (subst (λ m. IsExcused table trail (late_of it) (pending_of it) falsified.level m) s.1.named e))
            (cases_lt fails.slot.place (head_of it));
        constant = was.covers.constant;
      };
    }

-- the other watched literal is in the clause
pub own-other : (table : List (List Literal)) (trail : Trail) (it : Propagator) (number : ℕ) (literal other : Literal) → IsPropagator table trail it →
    IsPaired (pairs_of it.watches) number literal other → Contains (clause_at table number) other
own-other table trail it number literal other is p = is.watched.own number other (paired-other (pairs_of it.watches) number literal other p.differ p.is)

pub makes-true : (table : List (List Literal)) (trail : Trail) (number : ℕ) (literal : Literal) → Contains (clause_at table number) literal →
    literal_value trail literal ≡ Some true → IsSatisfied trail (clause_at table number)
makes-true table trail number literal c is = any-contains (λ (l : Literal). literal_value trail l ≡ Some true) (clause_at table number) literal c is

-- a value that passed a test for true
pub tested-true : (o value : Option Bool) → true ≡ option_eq beq o (Some true) → o ≡ value → value ≡ Some true
tested-true None value test same = absurd cc
tested-true (Some true) value test same = sym same
tested-true (Some false) value test same = absurd cc

-- a trail extends itself, and what extends a longer trail extends the first
pub extends-same : (trail : Trail) → ExtendsTrail trail trail
extends-same trail = record { kept = λ variable slot at. at; only = λ variable slot at. inl at }

pub extends-trans : (one two three : Trail) → ExtendsTrail one two → ExtendsTrail two three → ExtendsTrail one three
extends-trans one two three first second =
    record {
      kept = λ variable slot at. second.kept variable slot (first.kept variable slot at);
      only = λ variable slot at. ⊎_elim
          (λ (was : slot_of two variable ≡ Some slot). first.only variable slot was)
          (λ (forced : is_decided slot.reason ≡ false). inr forced) (second.only variable slot at);
    }

-- propagation forces nothing, one literal, or first some and then others
pub propagates-none : (table : List (List Literal)) (trail : Trail) → IsJustified table trail → Propagates table trail trail
propagates-none table trail justified = record { justified = justified; extends = extends-same trail; size = refl; open_ones = omega arith; total = refl }

pub propagates-same : (table : List (List Literal)) (old new : Trail) → IsJustified table old → IsSame old new → Propagates table old new
propagates-same table old new justified same =
    let fewer : open_count new ≡ open_count old = ap (count_by is_none) same.slots in
    let back = same-slots old new same in
    record {
      justified = justified-same table old new justified same;
      extends = record { kept = λ v s at. back v ∙ at; only = λ v s at. inl (sym (back v) ∙ at) };
      size = ap length same.slots;
      open_ones = omega (arith, fewer);
      total = omega (arith, fewer, ap length same.order);
    }

pub propagates-gains : (table : List (List Literal)) (old new : Trail) (literal : Literal) (level number : ℕ) → IsJustified table old →
    Gains old new literal level (Forced number) → slot_of old literal.variable ≡ None → number < length table → Contains (clause_at table number) literal →
    IsUnit old literal (clause_at table number) → Propagates table old new
propagates-gains table old new literal level number justified gains free inside there unit = record {
  justified = justified-gains table old new literal level number justified gains free inside there unit;
  extends = extends-gains old new literal level number gains free;
  size = gains.size;
  open_ones = omega (arith, gains.fewer_open);
  total = omega (arith, gains.fewer_open, gains.count);
}

pub propagates-trans : (table : List (List Literal)) (one two three : Trail) → Propagates table one two → Propagates table two three →
    Propagates table one three
propagates-trans table one two three first second = record {
  justified = second.justified;
  extends = extends-trans one two three first.extends second.extends;
  size = second.size ∙ first.size;
  open_ones = omega (arith, first.open_ones, second.open_ones);
  total = second.total ∙ first.total;
}
