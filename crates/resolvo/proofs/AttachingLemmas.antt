-- The invariant of propagation is kept when clauses are attached, the trail is cut, or variables are added.
use Rattle.std.proofs.Common.{◌≡◌, ◌≢◌, ℕ, ◌+◌, ◌*◌, ◌-◌, ◌<◌, ◌≤◌, ◌⊎◌, List, [], ◌∷◌, ◌++◌, length, get_or, take, min, Some, None, Option}
use Rattle.std.proofs.Common.{Bool, eqb, true, append_assoc, arith, inl, inr, refl, sym, ap, ◌∙◌, subst, ⊎_elim, length-append}
use Rattle.std.specs.Prelude.{Vec, slice_get}
use Rattle.std.specs.Bool.{beq}
use Rattle.std.specs.List.{All, Any, Contains}
use Rattle.std.specs.Option.{MatchOption, option_map}
use Rattle.std.specs.declared.alloc.Global.{Global}
use Rattle.std.proofs.lemmas.Bool.{cases_eq, cases_lt, eqb-true}
use Rattle.std.proofs.lemmas.List.Elements.{All-contains, All-push, Contains-append_cases, Contains-append_left, Contains-append_right}
use Rattle.std.proofs.lemmas.List.{append-nil, get_or_push, take_all, take_more}
use Rattle.std.proofs.lemmas.Option.{none-some, get_or_from_slice_get, same_Some, slice_get-get_or, slice_get_within}
use Rattle.resolver_clause_store.specs.Literals.{Literal}
use Rattle.resolver_clause_store.specs.declared.Reason.{Reason}
use Rattle.resolver_clause_store.specs.declared.Reason.TheVariants.{Forced}
use Rattle.resolver_clause_store.specs.declared.Slot.{Slot}
use Rattle.resolver_clause_store.specs.declared.Trail.{Trail}
use Rattle.resolver_clause_store.specs.Formula.{AreBelow, clause_at}
use Rattle.resolver_clause_store.specs.Outcomes.{IsFalseBefore, IsSatisfied}
use Rattle.resolver_clause_store.specs.TrailView.{Gains, IsCut, IsGrown, IsUndone, KeepsPlaces, length_of, literal_value, slot_of}
use Rattle.resolver_clause_store.proofs.FormulaLemmas.{clause_at-last, clause_at-past, clause_at-push}
use Rattle.resolver_clause_store.proofs.KeptLemmas.{keeps_all, keeps_places, keeps_undone}
use Rattle.resolver_clause_store.proofs.PlaceLemmas.{place_left}
use Rattle.resolver_clause_store.proofs.TrailLemmas.{Keeps, value-true}
use Rattle.resolvo.specs.declared.propagator.Late.{Late}
use Rattle.resolvo.specs.declared.propagator.Propagator.{Propagator}
use Rattle.resolver_clause_store.specs.declared.Watch.{Watch}
use Rattle.resolver_clause_store.specs.declared.WatchedPair.{WatchedPair}
use Rattle.resolver_clause_store.specs.declared.Watches.{Watches}
use Rattle.resolvo.specs.Attaching.{AreDistinctLiterals, HasLast, Forces, IsHigh, IsHighPair, IsLower, IsNotFalseBefore, HasRisingLengths, Recalls, IsPairOf}
use Rattle.resolvo.specs.Propagation.{IsJustified, IsUnit}
use Rattle.resolver_clause_store.specs.Settled.{IsOpen}
use Rattle.resolvo.specs.Propagators.{AreLate, AreWatched, IsConstant, IsExcused, IsNoted, IsPropagator, IsTrueAt, IsTrueBefore, IsWatchInvariant}
use Rattle.resolvo.specs.Propagators.{attached_of, head_of, late_of, pending_of}
use Rattle.resolver_clause_store.specs.Watches.{FitClauses, FitsClause, HasLiteral, IsWatching, WatchesNothing, list_at, pair_at, unwatched}
use Rattle.resolver_clause_store.specs.WatchesView.{lists_of, pairs_of}
use Rattle.resolvo.proofs.PropagatorLemmas.{any-map, covers-kept, late-kept}
use Rattle.resolver_clause_store.proofs.BoolLemmas.{beq-itself as beq-same}
use Rattle.resolver_clause_store.proofs.ListLemmas.{All-front as all-left, slice_get-last as place_last, Contains-one}
use Rattle.resolver_clause_store.proofs.WatchListLemmas.{pair_at-before as pair-before, watching-number as watching-inside}
use Rattle.resolvo.proofs.JustifiedLemmas.{extends-gains, justified-gains}
use Rattle.resolvo.proofs.VisitLemmas.{late-pushed}

pair-last : (pairs : List WatchedPair) (pair : WatchedPair) (number : ℕ) → length pairs ≡ number → pair_at (pairs ++ pair ∷ []) number ≡ pair
pair-last pairs pair number end = get_or_push pairs pair unwatched number end

-- more variables
pub propagator-grown : (table : List (List Literal)) (old new : Trail) (variables : ℕ) (p : Propagator) (watches : Watches) →
    length (lists_of watches) ≡ 2 * variables → ((list : ℕ) → list_at (lists_of watches) list ≡ list_at (lists_of p.watches) list) →
    pairs_of watches ≡ pairs_of p.watches → IsGrown old new variables → IsPropagator table old p → IsPropagator table new (record p { watches = watches })
propagator-grown table old new variables p watches size lists pairs grown it =
    let keeps : Keeps old new = record { kept = λ v s at. grown.slots v ∙ at } in
    let fit : FitClauses table (lists_of watches) =
    λ list. subst (λ (ws : List Watch). All (λ (w : Watch). FitsClause table w) ws) (sym (lists list)) (it.watched.fit list) in
    record {
      lists = size ∙ ap (λ n. 2 * n) (sym grown.size);
      watched = subst (λ (ps : List WatchedPair). AreWatched table (lists_of watches) ps) (sym pairs)
          (record { attached = it.watched.attached; own = it.watched.own; constant = it.watched.constant; fit = fit });
      late = late-kept table old new _ keeps it.late;
      pending = subst (λ (ps : List WatchedPair). All (λ n. n < length ps) (pending_of p)) (sym pairs) it.pending;
      inside = subst (λ (ps : List WatchedPair). All (λ (l : Late). l.number < length ps) (late_of p)) (sym pairs) it.inside;
      head = omega (arith, it.head, (keeps_all old new keeps).are);
      covers = subst (λ (ps : List WatchedPair). IsWatchInvariant table new ps (late_of p) (pending_of p) (head_of p)) (sym pairs)
          (covers-kept table old new _ _ _ _ keeps it.head it.covers);
    }

-- a clause that has a literal is in the table
within-contains : (table : List (List Literal)) (number : ℕ) (literal : Literal) → Contains (clause_at table number) literal → number < length table
within-contains table number literal contains = ⊎_elim
    (λ (less : number < length table). less)
    (λ (past : length table ≤ number).
    let none : clause_at table number ≡ [] = clause_at-past table number past in
    let here : Contains [] literal = subst (λ (c : List Literal). Contains c literal) none contains in
    absurd (omega (arith, here.1)))
    (cases_lt number (length table))

-- more clauses after the others
module _ (old new : List (List Literal)) (longer : length old ≤ length new)
    (same : (number : ℕ) → number < length old → clause_at new number ≡ clause_at old number) where
  late-longer : (trail : Trail) (late : List Late) (attached : ℕ) → attached ≤ length old → All (λ (l : Late). l.number < attached) late →
      AreLate old trail late → AreLate new trail late
  late-longer trail late attached short inside are = record {
    each = λ k d below. subst (λ (c : List Literal). Any (IsTrueBefore trail (get_or late k d).length) c)
        (sym (same _ (omega (arith, inside k d below, short)))) (are.each k d below);
    within = are.within;
    rising = are.rising;
  }

  fit-longer : (lists : List (List Watch)) → FitClauses old lists → FitClauses new lists
  fit-longer lists fit = λ list k d below.
      let here = fit list k d below in
      let as_before = same _ (within-contains old _ _ here.own) in
      record {
        own = subst (λ (c : List Literal). Contains c (get_or (list_at lists list) k d).blocker) (sym as_before) here.own;
        two = λ e. ap (λ (c : List Literal). length c) as_before ∙ here.two e;
      }

  covers-longer : (trail : Trail) (pairs : List WatchedPair) (late : List Late) (pending : List ℕ) (head : ℕ) → length pairs ≤ length old →
      IsWatchInvariant old trail pairs late pending head → IsWatchInvariant new trail pairs late pending head
  covers-longer trail pairs late pending head short covers = record {
    watched = λ number literal watching fails. subst (λ (c : List Literal). Any (IsTrueAt trail fails.slot.level) c ⊎ IsNoted late pending number)
        (sym (same number (omega (arith, watching-inside pairs number literal watching, short)))) (covers.watched number literal watching fails);
    constant = covers.constant;
  }

-- a trail that was cut
pub lower-undone : (old new : Trail) (level : ℕ) → IsUndone old new level → IsLower old new
lower-undone old new level undone = record {
  size = undone.size;
  places = keeps_undone old new level undone;
  stays = λ v s at. (undone.stays v s at).0;
  whole = λ v w s t at other low. undone.kept w t other (omega (arith, low, (undone.stays v s at).1));
}

-- the first entries are left
places-cut : (old new : Trail) (count : ℕ) → IsCut old new count → count ≤ length_of old → KeepsPlaces old new (length_of new)
places-cut old new count cut within =
    keeps_places old new (length_of new) (omega (arith, within, cut.length)) (λ v s at below. cut.kept v s at (omega (arith, below, cut.length)))

-- the late clauses when some at the end were removed
late-fewer : (table : List (List Literal)) (old new : Trail) (late left gone : List Late) → late ≡ left ++ gone → KeepsPlaces old new (length_of new) →
    All (λ (l : Late). l.length ≤ length_of new) left → AreLate table old late → AreLate table new left
late-fewer table old new late left gone is places within are =
    let was : AreLate table old (left ++ gone) = subst (λ (ls : List Late). AreLate table old ls) is are in
    let each : All (λ (l : Late). Any (IsTrueBefore old l.length) (clause_at table l.number)) left =
    all-left (λ (l : Late). Any (IsTrueBefore old l.length) (clause_at table l.number)) left gone was.each in
    record {
      each = λ k d below. any-map _ _ _ (λ l (t : IsTrueBefore old (get_or left k d).length l). search
          (places.slots _ t.slot t.is (omega (arith, t.earlier, within k d below)))) (each k d below);
      within = within;
      rising = λ k n early later less at there. was.rising k n early later less (place_left left gone k early at) (place_left left gone n later there);
    }

covers-cut : (table : List (List Literal)) (old new : Trail) (pairs : List WatchedPair) (late left : List Late) (pending more : List ℕ) (head : ℕ) →
    IsLower old new → ((number : ℕ) → IsNoted late pending number → IsNoted left more number) → IsWatchInvariant table old pairs late pending head →
    IsWatchInvariant table new pairs left more (min head (length_of new))
covers-cut table old new pairs late left pending more head lower noted covers = record {
  watched = λ number literal watching fails.
      let was : IsFalseBefore old head literal =
      record { slot = fails.slot; is = lower.stays _ _ fails.is; false_there = fails.false_there; earlier = omega (arith, fails.earlier) } in
      ⊎_elim
      (λ (holds : Any (IsTrueAt old fails.slot.level) (clause_at table number)). inl
      (any-map _ _ _ (λ l (t : IsTrueAt old fails.slot.level l). search (lower.whole _ _ fails.slot t.slot fails.is t.is t.low)) holds))
      (λ (was_noted : IsNoted late pending number). inr (noted number was_noted))
      (covers.watched number literal watching was);
  constant = λ number inside is. noted number (covers.constant number inside is);
}

pub propagator-cut : (table : List (List Literal)) (old new : Trail) (p : Propagator) (late : Vec Late Global) (pending : List ℕ) (head : ℕ) →
    Recalls (late_of p) late.items (pending_of p) pending (length_of new) → head ≡ min p.head (length_of new) → IsLower old new →
    IsPropagator table old p → IsPropagator table new (record p { late = late; pending = pending; head = head })
propagator-cut table old new p late pending head recalls is lower it = record {
  lists = it.lists ∙ ap (λ n. 2 * n) (sym lower.size);
  watched = it.watched;
  late = late-fewer table old new _ _ recalls.gone recalls.late lower.places (recalls.within it.late.rising) it.late;
  pending = recalls.inside _ it.inside it.pending;
  inside = all-left (λ (l : Late). l.number < attached_of p) late.items recalls.gone
      (subst (λ (ls : List Late). All (λ (l : Late). l.number < attached_of p) ls) recalls.late it.inside);
  head = omega (arith, is);
  covers = rw is (covers-cut table old new _ _ _ _ _ _ lower recalls.noted it.covers);
}

pub propagator-forgot : (table : List (List Literal)) (old new : Trail) (count : ℕ) (p : Propagator) (late : Vec Late Global) (pending : List ℕ) →
    Recalls (late_of p) late.items (pending_of p) pending (length_of new) → count ≤ length_of old → IsCut old new count → IsPropagator table old p →
    IsPropagator table new (record p { late = late; pending = pending; head = 0 })
propagator-forgot table old new count p late pending recalls within cut it = record {
  lists = it.lists ∙ ap (λ n. 2 * n) (sym cut.size);
  watched = it.watched;
  late = late-fewer table old new _ _ recalls.gone recalls.late (places-cut old new count cut within) (recalls.within it.late.rising) it.late;
  pending = recalls.inside _ it.inside it.pending;
  inside = all-left (λ (l : Late). l.number < attached_of p) late.items recalls.gone
      (subst (λ (ls : List Late). All (λ (l : Late). l.number < attached_of p) ls) recalls.late it.inside);
  head = omega arith;
  covers = record {
    watched = λ number literal watching fails. absurd (omega (arith, fails.earlier));
    constant = λ number inside is. recalls.noted number (it.covers.constant number inside is);
  };
}

-- a list is its front and its last element
pub ends : {X : Type 0} (xs : List X) (x : X) → slice_get xs (length xs - 1) ≡ Some x → xs ≡ take (length xs - 1) xs ++ x ∷ []
ends {X} xs x at =
    let below : length xs - 1 < length xs = slice_get_within xs (length xs - 1) x at in
    let Ended : X → Type 0 = λ y. xs ≡ take (length xs - 1) xs ++ y ∷ [] in
    subst Ended (get_or_from_slice_get xs (length xs - 1) x x at)
    (sym (take_all (length xs - 1 + 1) xs (omega (arith, below))) ∙ take_more xs (length xs - 1) x below)

pub ends-with : (all : List ℕ) (number : ℕ) → HasLast all number → all ≡ take (length all - 1) all ++ number ∷ []
ends-with all number e =
    let size : length (e.rest ++ number ∷ []) ≡ length e.rest + 1 = length-append e.rest (number ∷ []) in
    let Last : ℕ → List ℕ → Type 0 = λ n ns. slice_get ns n ≡ Some number in
    let here : slice_get (e.rest ++ number ∷ []) (length e.rest) ≡ Some number = place_last e.rest number in
    let last : length e.rest ≡ length all - 1 = omega (arith, size, ap length e.is) in
    let at : slice_get all (length all - 1) ≡ Some number = subst (λ n. Last n all) last (subst (λ ns. Last (length e.rest) ns) (sym e.is) here) in
    ends all number at

-- late clauses at the end become pending, one after another
pub record Moves (old new : List Late) (pending more : List ℕ) : Type 0 where
  pub gone : List Late
  pub late : old ≡ new ++ gone
  pub noted : (number : ℕ) → IsNoted old pending number → IsNoted new more number
  pub inside : (bound : ℕ) → All (λ (l : Late). l.number < bound) old → All (λ number. number < bound) pending → All (λ number. number < bound) more

pub moves-none : (late : List Late) (pending : List ℕ) → Moves late late pending pending
moves-none late pending = record { gone = []; late = sym (append-nil late); noted = λ number noted. noted; inside = λ bound all are. are }

noted-last : (late : List Late) (last : Late) (pending : List ℕ) (number : ℕ) → IsNoted (late ++ last ∷ []) pending number →
    IsNoted late (pending ++ last.number ∷ []) number
noted-last late last pending number noted = ⊎_elim
    (λ (one : Any (λ (l : Late). l.number ≡ number) (late ++ last ∷ [])). ⊎_elim
    (λ (early : Contains late one.1). inl (early.0, one.1, early.1, early.2, one.4))
    (λ (end : Contains (last ∷ []) one.1).
    let here : last.number ≡ number = ap (λ (l : Late). l.number) (Contains-one last one.1 end) ∙ one.4 in
    let Has : ℕ → Type 0 = λ n. Contains (pending ++ last.number ∷ []) n in
    inr (subst Has here (Contains-append_right pending (last.number ∷ []) last.number (0, omega arith, refl))))
    (Contains-append_cases late (last ∷ []) one.1 (one.0, one.2, one.3)))
    (λ (again : Contains pending number). inr (Contains-append_left pending (last.number ∷ []) number again))
    noted

pub moves-more : (old late : List Late) (last : Late) (pending more : List ℕ) → Moves old (late ++ last ∷ []) pending more →
    Moves old late pending (more ++ last.number ∷ [])
moves-more old late last pending more moves = record {
  gone = last ∷ moves.gone;
  late = moves.late ∙ append_assoc late (last ∷ []) moves.gone;
  noted = λ number noted. noted-last late last more number (moves.noted number noted);
  inside = λ bound all are.
      let here : All (λ (l : Late). l.number < bound) (late ++ last ∷ []) =
      all-left (λ (l : Late). l.number < bound) (late ++ last ∷ []) moves.gone
      (subst (λ (ls : List Late). All (λ (l : Late). l.number < bound) ls) moves.late all) in
      All-push (λ n. n < bound) more last.number (moves.inside bound all are)
      (All-contains (λ (l : Late). l.number < bound) (late ++ last ∷ []) last here (Contains-append_right late (last ∷ []) last (0, omega arith, refl)));
}

-- if the last late clause was noted with few entries, so was each late clause before it
within-last : (late : List Late) (last : Late) (count : ℕ) → HasRisingLengths (late ++ last ∷ []) → last.length ≤ count →
    All (λ (l : Late). l.length ≤ count) (late ++ last ∷ [])
within-last late last count rising short = All-push (λ (l : Late). l.length ≤ count) late last (λ k d below.
    let at : slice_get (late ++ last ∷ []) k ≡ Some (get_or late k d) = place_left late (last ∷ []) k (get_or late k d) (slice_get-get_or late k d below) in
    omega (arith, rising k (length late) (get_or late k d) last below at (place_last late last), short)) short

rising-left : (late gone : List Late) → HasRisingLengths (late ++ gone) → HasRisingLengths late
rising-left late gone rising =
    λ k n early later less at there. rising k n early later less (place_left late gone k early at) (place_left late gone n later there)

pub moves-done : (old late : List Late) (last : Late) (pending more : List ℕ) (count : ℕ) → last.length ≤ count → Moves old (late ++ last ∷ []) pending more →
    Recalls old (late ++ last ∷ []) pending more count
moves-done old late last pending more count short moves =
    let within = λ (rising : HasRisingLengths old). within-last late last count
    (rising-left (late ++ last ∷ []) moves.gone (subst (λ (ls : List Late). HasRisingLengths ls) moves.late rising)) short in
    search moves

pub moves-all : (old late : List Late) (pending more : List ℕ) (count : ℕ) → length late ≤ 0 → Moves old late pending more → Recalls old late pending more count
moves-all old late pending more count none moves =
    let within : HasRisingLengths old → All (λ (l : Late). l.length ≤ count) late = λ rising k d below. absurd (omega (arith, below, none)) in
    search moves

-- a clause that is not pending any more
noted-fewer : (late : List Late) (rest : List ℕ) (number other : ℕ) → other ≢ number → IsNoted late (rest ++ number ∷ []) other → IsNoted late rest other
noted-fewer late rest number other differ noted = ⊎_elim
    (λ (one : Any (λ (l : Late). l.number ≡ other) late). inl one)
    (λ (again : Contains (rest ++ number ∷ []) other). ⊎_elim
    (λ (early : Contains rest other). inr early)
    (λ (end : Contains (number ∷ []) other). absurd (differ (sym (Contains-one number other end))))
    (Contains-append_cases rest (number ∷ []) other again))
    noted

module _ (table : List (List Literal)) (trail : Trail) (pairs : List WatchedPair) (late left : List Late) (rest : List ℕ) (number head lower : ℕ)
    (less : lower ≤ head) (grown : (other : ℕ) → IsNoted late rest other → IsNoted left rest other) where
  covers-fewer : ((literal : Literal) → IsWatching pairs number literal → (fails : IsFalseBefore trail lower literal) →
      IsExcused table trail left rest fails.slot.level number) → (number < length pairs → WatchesNothing (pair_at pairs number) → IsNoted left rest number) →
      IsWatchInvariant table trail pairs late (rest ++ number ∷ []) head → IsWatchInvariant table trail pairs left rest lower
  covers-fewer here constant covers = record {
    watched = λ other literal watching fails. ⊎_elim
        (λ (e : other ≡ number).
        let Watching : ℕ → Type 0 = λ n. IsWatching pairs n literal in
        let Excused : ℕ → Type 0 = λ n. IsExcused table trail left rest fails.slot.level n in
        subst Excused (sym e) (here literal (subst Watching e watching) fails))
        (λ (differ : other ≢ number).
        let was : IsFalseBefore trail head literal =
        record { slot = fails.slot; is = fails.is; false_there = fails.false_there; earlier = omega (arith, fails.earlier, less) } in
        ⊎_elim
        (λ (holds : Any (IsTrueAt trail fails.slot.level) (clause_at table other)). inl holds)
        (λ (noted : IsNoted late (rest ++ number ∷ []) other). inr (grown other (noted-fewer late rest number other differ noted)))
        (covers.watched other literal watching was))
        (cases_eq other number);
    constant = λ other inside is. ⊎_elim
        (λ (e : other ≡ number).
        let Noted : ℕ → Type 0 = λ n. IsNoted left rest n in
        let Unwatched : ℕ → Type 0 = λ n. WatchesNothing (pair_at pairs n) in
        subst Noted (sym e) (constant (omega (arith, inside, e)) (subst Unwatched e is)))
        (λ (differ : other ≢ number). grown other (noted-fewer late rest number other differ (covers.constant other inside is)))
        (cases_eq other number);
  }

all-fewer : (rest : List ℕ) (number bound : ℕ) → All (λ n. n < bound) (rest ++ number ∷ []) → All (λ n. n < bound) rest
all-fewer rest number bound all = all-left (λ n. n < bound) rest (number ∷ []) all

-- a satisfied clause has a true literal of no higher level than a literal that is false at the highest level
excused-high : (trail : Trail) (literal : Literal) (clause : List Literal) (place : ℕ) → IsHigh trail literal → (fails : IsFalseBefore trail place literal) →
    IsSatisfied trail clause → Any (IsTrueAt trail fails.slot.level) clause
excused-high trail literal clause place high fails satisfied = any-map _ _ _ (λ l holds.
    let t = value-true (slot_of trail l.variable) l.positive holds in
    record { slot = t.0; is = t.1; true_there = t.2; low = high fails.slot fails.is fails.false_there l.variable t.0 t.1 }) satisfied

pub passed-high : (table : List (List Literal)) (trail : Trail) (p : Propagator) (pending : List ℕ) (number : ℕ) → pending_of p ≡ pending ++
    number ∷ [] → IsHighPair trail (pair_at (pairs_of p.watches) number) → IsSatisfied trail (clause_at table number) → IsPropagator table trail p →
    IsPropagator table trail (record p { pending = pending })
passed-high table trail p pending number ends pair satisfied it =
    let pairs = pairs_of p.watches in
    let all : All (λ n. n < attached_of p) (pending ++ number ∷ []) = subst (λ (ns : List ℕ). All (λ n. n < attached_of p) ns) ends it.pending in
    let covers : IsWatchInvariant table trail pairs (late_of p) (pending ++ number ∷ []) (head_of p) =
    subst (λ (ns : List ℕ). IsWatchInvariant table trail pairs (late_of p) ns (head_of p)) ends it.covers in
    let fewer = all-fewer pending number (attached_of p) all in
    let covered = covers-fewer table trail pairs (late_of p) (late_of p) pending number (head_of p) (head_of p) (omega arith) (λ other noted. noted)
    (λ literal watching fails. ⊎_elim
    (λ (e : (pair_at pairs number).first ≡ literal).
    inl (excused-high trail literal _ _ (subst (λ (l : Literal). IsHigh trail l) e pair.first) fails satisfied))
    (λ (e : (pair_at pairs number).second ≡ literal).
    inl (excused-high trail literal _ _ (subst (λ (l : Literal). IsHigh trail l) e pair.second) fails satisfied))
    watching.is)
    (λ inside none. absurd (pair.differ none))
    covers in
    assumption

pub passed-late : (table : List (List Literal)) (trail : Trail) (p : Propagator) (late : Vec Late Global) (pending : List ℕ) (number : ℕ) →
    pending_of p ≡ pending ++ number ∷ [] → late.items ≡ late_of p ++ record { number = number; length = length_of trail } ∷ [] →
    IsSatisfied trail (clause_at table number) → IsPropagator table trail p → IsPropagator table trail (record p { late = late; pending = pending })
passed-late table trail p late pending number ends is satisfied it =
    let pairs = pairs_of p.watches in
    let made : Late = record { number = number; length = length_of trail } in
    let all : All (λ n. n < attached_of p) (pending ++ number ∷ []) = subst (λ (ns : List ℕ). All (λ n. n < attached_of p) ns) ends it.pending in
    let inside : number < attached_of p =
    All-contains (λ n. n < attached_of p) (pending ++ number ∷ []) number all
    (Contains-append_right pending (number ∷ []) number (0, omega arith, refl)) in
    let covers : IsWatchInvariant table trail pairs (late_of p) (pending ++ number ∷ []) (head_of p) =
    subst (λ (ns : List ℕ). IsWatchInvariant table trail pairs (late_of p) ns (head_of p)) ends it.covers in
    let longer : List Late = late_of p ++ made ∷ [] in
    let has : Contains longer made = Contains-append_right (late_of p) (made ∷ []) made (0, omega arith, refl) in
    let noted : IsNoted longer pending number = inl (has.0, made, has.1, has.2, refl) in
    let was_late = subst (λ (ls : List Late). AreLate table trail ls) (sym is) (late-pushed table trail (late_of p) number it.late satisfied) in
    let fewer = all-fewer pending number (attached_of p) all in
    let attached = subst (λ (ls : List Late). All (λ (l : Late). l.number < attached_of p) ls) (sym is)
    (All-push (λ (l : Late). l.number < attached_of p) (late_of p) made it.inside inside) in
    let covered = subst (λ (ls : List Late). IsWatchInvariant table trail pairs ls pending (head_of p)) (sym is)
    (covers-fewer table trail pairs (late_of p) longer pending number (head_of p) (head_of p) (omega arith)
    (λ other was. ⊎_elim
    (λ (one : Any (λ (l : Late). l.number ≡ other) (late_of p)).
    let there = Contains-append_left (late_of p) (made ∷ []) one.1 (one.0, one.2, one.3) in
    inl (there.0, one.1, there.1, there.2, one.4))
    (λ (again : Contains pending other). inr again)
    was)
    (λ literal watching fails. inr noted)
    (λ within unwatched_there. noted)
    covers) in
    assumption

-- a clause with two literals without a value
pub reopened : (table : List (List Literal)) (trail : Trail) (p : Propagator) (pending : List ℕ) (number head first second : ℕ) →
    pending_of p ≡ pending ++ number ∷ [] → head ≡ min (min p.head first) second →
    IsNotFalseBefore trail first (pair_at (pairs_of p.watches) number).first → IsNotFalseBefore trail second (pair_at (pairs_of p.watches) number).second →
    IsOpen trail (clause_at table number) → IsPropagator table trail p → IsPropagator table trail (record p { pending = pending; head = head })
reopened table trail p pending number head first second ends is first_place second_place free it =
    let pairs = pairs_of p.watches in
    let all : All (λ n. n < attached_of p) (pending ++ number ∷ []) = subst (λ (ns : List ℕ). All (λ n. n < attached_of p) ns) ends it.pending in
    let covers : IsWatchInvariant table trail pairs (late_of p) (pending ++ number ∷ []) (head_of p) =
    subst (λ (ns : List ℕ). IsWatchInvariant table trail pairs (late_of p) ns (head_of p)) ends it.covers in
    let fewer = all-fewer pending number (attached_of p) all in
    let reached : head ≤ length_of trail = omega (arith, is, it.head) in
    let covered = covers-fewer table trail pairs (late_of p) (late_of p) pending number (head_of p) head (omega (arith, is)) (λ other noted. noted)
    (λ literal watching fails. ⊎_elim
    (λ (e : (pair_at pairs number).first ≡ literal). absurd
    (omega (arith, subst (λ (l : Literal). IsNotFalseBefore trail first l) e first_place fails.slot fails.is fails.false_there, fails.earlier, is)))
    (λ (e : (pair_at pairs number).second ≡ literal). absurd
    (omega (arith, subst (λ (l : Literal). IsNotFalseBefore trail second l) e second_place fails.slot fails.is fails.false_there, fails.earlier, is)))
    watching.is)
    (λ inside none. absurd (free.differ (it.watched.constant number inside none free.first free.second free.has_first free.has_second)))
    covers in
    assumption

-- the watches of a clause after the others
pair-own : (clause : List Literal) (pair : WatchedPair) → IsPairOf clause pair → (literal : Literal) → HasLiteral pair literal → Contains clause literal
pair-own clause pair is literal has =
    let apart = is.own has.differ in
    ⊎_elim
    (λ (e : pair.first ≡ literal). subst (λ (l : Literal). Contains clause l) e apart.has_first)
    (λ (e : pair.second ≡ literal). subst (λ (l : Literal). Contains clause l) e apart.has_second)
    has.is

module _ (pairs : List WatchedPair) (pair : WatchedPair) where
  abbrev longer : List WatchedPair
  longer = pairs ++ pair ∷ []

  watching-cases : (number : ℕ) (literal : Literal) → IsWatching longer number literal → ((number < length pairs) × IsWatching pairs number literal) ⊎
      ((number ≡ length pairs) × HasLiteral pair literal)
  watching-cases number literal watching =
      let Watching : WatchedPair → Type 0 = λ p. HasLiteral p literal in
      ⊎_elim
      (λ (less : number < length pairs). inl (less, subst Watching (pair-before pairs pair number less) watching))
      (λ (more : length pairs ≤ number).
      let end : number ≡ length pairs = omega (arith, more, watching-inside longer number literal watching, length-append pairs (pair ∷ [])) in
      inr (end, subst Watching (pair-last pairs pair number (sym end)) watching))
      (cases_lt number (length pairs))

  covers-push : (table : List (List Literal)) (trail : Trail) (late : List Late) (pending : List ℕ) (head : ℕ) →
      IsWatchInvariant table trail pairs late pending head → IsWatchInvariant table trail longer late (pending ++ length pairs ∷ []) head
  covers-push table trail late pending head covers =
      let grown : (number : ℕ) → IsNoted late pending number → IsNoted late (pending ++ length pairs ∷ []) number =
      λ number noted. ⊎_elim (λ (one : Any (λ (l : Late). l.number ≡ number) late). inl one) (λ (again : Contains pending number).
      inr (Contains-append_left pending (length pairs ∷ []) number again)) noted in
      let last : (number : ℕ) → number ≡ length pairs → IsNoted late (pending ++ length pairs ∷ []) number = λ number e.
      let Has : ℕ → Type 0 = λ n. Contains (pending ++ length pairs ∷ []) n in
      inr (subst Has (sym e) (Contains-append_right pending (length pairs ∷ []) (length pairs) (0, omega arith, refl))) in
      record {
        watched = λ number literal watching fails. ⊎_elim
            (λ (w : (number < length pairs) × IsWatching pairs number literal). ⊎_elim
            (λ (holds : Any (IsTrueAt trail fails.slot.level) (clause_at table number)). inl holds)
            (λ (noted : IsNoted late pending number). inr (grown number noted))
            (covers.watched number literal w.1 fails))
            (λ (w : (number ≡ length pairs) × HasLiteral pair literal). inr (last number w.0))
            (watching-cases number literal watching);
        constant = λ number inside is. ⊎_elim
            (λ (less : number < length pairs).
            grown number (covers.constant number less (subst (λ (p : WatchedPair). WatchesNothing p) (pair-before pairs pair number less) is)))
            (λ (past : length pairs ≤ number). last number (omega (arith, past, inside, length-append pairs (pair ∷ []))))
            (cases_lt number (length pairs));
      }

-- a clause after those of the table
module _ (table : List (List Literal)) (clause : List Literal) (pairs : List WatchedPair) (size : length pairs ≡ length table) where
  abbrev added : List (List Literal)
  added = table ++ clause ∷ []

  added-at : clause_at added (length pairs) ≡ clause
  added-at = ap (λ (n : ℕ). clause_at added n) size ∙ clause_at-last table clause

  added-before : (number : ℕ) → number < length pairs → clause_at added number ≡ clause_at table number
  added-before number less = clause_at-push table clause number (omega (arith, less, size))

  watched-added : (pair : WatchedPair) (old new : List (List Watch)) →
      IsPairOf clause pair → FitClauses added new → AreWatched table old pairs →
      AreWatched added new (pairs ++ pair ∷ [])
  watched-added pair old new chosen fit are = record {
    attached = length-append pairs (pair ∷ []) ∙ ap (λ (n : ℕ). n + 1) size ∙ sym (length-append table (clause ∷ []));
    own = λ number literal watching. ⊎_elim
        (λ (w : (number < length pairs) × IsWatching pairs number literal).
        subst (λ (c : List Literal). Contains c literal) (sym (added-before number w.0)) (are.own number literal w.1))
        (λ (w : (number ≡ length pairs) × HasLiteral pair literal). subst (λ (c : List Literal).
        Contains c literal) (sym (ap (λ (n : ℕ). clause_at added n) w.0 ∙ added-at)) (pair-own _ pair chosen literal w.1))
        (watching-cases pairs pair number literal watching);
    constant = λ number inside is. ⊎_elim
        (λ (less : number < length pairs).
        subst (λ (c : List Literal). IsConstant c) (sym (added-before number less))
        (are.constant number less (subst (λ (p : WatchedPair). WatchesNothing p) (pair-before pairs pair number less) is)))
        (λ (past : length pairs ≤ number).
        let end : length pairs ≡ number = omega (arith, past, inside, length-append pairs (pair ∷ [])) in
        subst (λ (c : List Literal). IsConstant c) (sym (ap (λ (n : ℕ). clause_at added n) (sym end) ∙ added-at))
        (chosen.constant (subst (λ (p : WatchedPair). WatchesNothing p) (pair-last pairs pair number end) is)))
        (cases_lt number (length pairs));
    fit = fit;
  }

pub attached-added : (table : List (List Literal)) (clause : List Literal) (trail : Trail) (p : Propagator) (watches : Watches)
    (pending : List ℕ) (pair : WatchedPair) (binary : Bool) → pairs_of watches ≡ pairs_of p.watches ++ pair ∷ [] →
    length (lists_of watches) ≡ length (lists_of p.watches) →
    ((pair.first ≢ pair.second → Contains (clause_at (table ++ clause ∷ []) (attached_of p)) pair.first ×
    Contains (clause_at (table ++ clause ∷ []) (attached_of p)) pair.second) →
    (binary ≡ true → length (clause_at (table ++ clause ∷ []) (attached_of p)) ≡ 2) → FitClauses (table ++ clause ∷ []) (lists_of p.watches) →
    FitClauses (table ++ clause ∷ []) (lists_of watches)) → binary ≡ eqb (length clause) 2 →
    pending ≡ pending_of p ++ attached_of p ∷ [] → IsPairOf clause pair →
    IsPropagator table trail p → IsPropagator (table ++ clause ∷ []) trail (record p { watches = watches; pending = pending })
attached-added table clause trail p watches pending pair binary pairs lists fit tested is chosen it =
    let more = table ++ clause ∷ [] in
    let before = pairs_of p.watches in
    let size = it.watched.attached in
    let longer : length table ≤ length more = simp length-append (omega arith) in
    let same = clause_at-push table clause in
    let long : length (pairs_of watches) ≡ attached_of p + 1 = ap length pairs ∙ length-append before (pair ∷ []) in
    let here : pair.first ≢ pair.second → Contains (clause_at more (attached_of p)) pair.first × Contains (clause_at more (attached_of p)) pair.second =
    λ differ. subst (λ (c : List Literal). Contains c pair.first × Contains c pair.second) (sym (added-at table clause before size))
    ((chosen.own differ).has_first, (chosen.own differ).has_second)
    in
    let two : binary ≡ true → length (clause_at more (attached_of p)) ≡ 2 = λ e.
    ap (λ (c : List Literal). length c) (added-at table clause before size) ∙ eqb-true (length clause) 2 (sym tested ∙ e) in
    let now = fit here two (fit-longer table more longer same (lists_of p.watches) it.watched.fit) in
    let covers = covers-longer table more longer same trail before (late_of p) (pending_of p) (head_of p) (omega (arith, size)) it.covers in
    record {
      lists = lists ∙ it.lists;
      watched = subst (λ (ps : List WatchedPair). AreWatched more (lists_of watches) ps) (sym pairs)
          (watched-added table clause before size pair (lists_of p.watches) (lists_of watches) chosen now it.watched);
      late = late-longer table more longer same trail (late_of p) (attached_of p) (omega (arith, size)) it.inside it.late;
      pending = subst (λ (ns : List ℕ). All (λ n. n < length (pairs_of watches)) ns) (sym is)
          (All-push (λ n. n < length (pairs_of watches)) (pending_of p) (attached_of p) (λ k d below. omega (arith, it.pending k d below, long))
          (omega (arith, long)));
      inside = λ k d below. omega (arith, it.inside k d below, long);
      head = it.head;
      covers = subst (λ (ns : List ℕ). IsWatchInvariant more trail (pairs_of watches) (late_of p) ns (head_of p)) (sym is)
          (subst (λ (ps : List WatchedPair). IsWatchInvariant more trail ps (late_of p) (pending_of p ++ attached_of p ∷ []) (head_of p)) (sym pairs)
          (covers-push before pair more trail (late_of p) (pending_of p) (head_of p) covers));
    }

-- the last pending clause is attached
pub last-inside : (table : List (List Literal)) (trail : Trail) (p : Propagator) (number : ℕ) → HasLast (pending_of p) number →
    IsPropagator table trail p → number < attached_of p
last-inside table trail p number e it =
    let has : Contains (pending_of p) number =
    subst (λ (ns : List ℕ). Contains ns number) (sym e.is) (Contains-append_right e.rest (number ∷ []) number (0, omega arith, refl)) in
    All-contains (λ n. n < attached_of p) (pending_of p) number it.pending has

pub last-within : (table : List (List Literal)) (trail : Trail) (p : Propagator) (number : ℕ) → HasLast (pending_of p) number →
    IsPropagator table trail p → number < length table
last-within table trail p number e it = omega (arith, last-inside table trail p number e it, it.watched.attached)

pub watched-below : (table : List (List Literal)) (trail : Trail) (p : Propagator) (variables number : ℕ) → AreBelow variables table →
    IsPropagator table trail p → (literal : Literal) → IsWatching (pairs_of p.watches) number literal → literal.variable < variables
watched-below table trail p variables number below it =
    λ literal watching. All-contains (λ (l : Literal). l.variable < variables) (clause_at table number) literal (below number)
    (it.watched.own number literal watching)

pub gained-satisfied : (old new : Trail) (literal : Literal) (level : ℕ) (reason : Reason) (clause : List Literal) → Gains old new literal level reason →
    Contains clause literal → IsSatisfied new clause
gained-satisfied old new literal level reason clause gains has =
    let holds : literal_value new literal ≡ Some true = ap (λ o. option_map (λ (slot : Slot). beq slot.value literal.positive) o) gains.here ∙
    ap Some (beq-same literal.positive) in
    (has.0, literal, has.1, has.2, holds)

pub forces-gains : (table : List (List Literal)) (old new : Trail) (literal : Literal) (level number : ℕ) → IsJustified table old →
    Gains old new literal level (Forced number) → slot_of old literal.variable ≡ None → number < length table → Contains (clause_at table number) literal →
    IsUnit old literal (clause_at table number) → Forces table old new
forces-gains table old new literal level number justified gains free inside has unit = record {
  justified = justified-gains table old new literal level number justified gains free inside has unit;
  extends = extends-gains old new literal level number gains free;
  size = gains.size;
  open_less = omega (arith, gains.fewer_open);
}
