-- Candidates that are read early.
use Rattle.std.proofs.Common.{◌≡◌, ℕ, ◌+◌, ◌<◌, ◌≤◌, Bool, true, false, length, length-append, List, [], refl, sym, ap, ◌∙◌, subst, ⊎_elim, inl, inr}
use Rattle.std.proofs.Common.{arith, Contains}
use Rattle.std.specs.Prelude.{◌||◌, IfSome, None, Option, Some, slice_get}
use Rattle.std.specs.Option.{option_map_or}
use Rattle.std.proofs.lemmas.Bool.{cases_lt}
use Rattle.std.proofs.lemmas.Option.{slice_get_within}
use Rattle.std.proofs.lemmas.List.Elements.{All-weaker}
use Rattle.resolver_clause_store.specs.Lists.{IsWithin}
use Rattle.resolver_clause_store.specs.Near.{IsNear}
use Rattle.resolver_clause_store.specs.Caches.{Covers}
use Rattle.resolver_clause_store.specs.Universe.{Universe, Demands, Hint}
use Rattle.resolver_clause_store.specs.declared.By.TheVariants.{Solvable as BySolvable}
use Rattle.resolver_clause_store.specs.declared.ClauseKind.{ClauseKind}
use Rattle.resolver_encoding.specs.Atoms.{wanted}
use Rattle.resolver_encoding.specs.Called.{AreAsked, IsCalledFor, to_ask}
use Rattle.resolver_encoding.specs.Encodings.{Extends, IsEncoding, IsLeft, Notes}
use Rattle.resolver_encoding.specs.Hints.{AreHintsReadTo, AreReadIfHinted, HintsAtNone, IsHinted, IsListedFrom, candidates_at}
use Rattle.resolver_encoding.specs.ReadState.{Deferred}
use Rattle.resolver_encoding.specs.SoFar.{HasRead, IsHintedReading, IsProgress, IsReadMore, IsReadSoFar, IsReadingOf, left_count, progress_by}
use Rattle.resolver_encoding.proofs.EncodingLemmas.{Extends-trans, Extends-within, IsGrowth-trans}
use Rattle.resolver_encoding.proofs.ReachLemmas.{asked_seen, near_read}
use Rattle.resolver_clause_store.proofs.ListLemmas.{Contains-at as place_in, Contains-none as none_in, slice_get-append_left}
use Rattle.resolver_encoding.proofs.SoFarLemmas.{IsReadingOf-same, IsReadingOf-trans, IsReadingOf-weaker, demanded_asked}
use Rattle.resolver_clause_store.proofs.DemandLemmas.{IsPresent-within}

-- an element keeps its place in a longer list
same_place : {X : Type 0} (xs ys : List X) → Extends xs ys → (k : ℕ) → k < length xs → slice_get ys k ≡ slice_get xs k
same_place xs ys more k below = ap (λ list. slice_get list k) more.is ∙ slice_get-append_left xs more.more k below

pub longer : {X : Type 0} (xs ys : List X) → Extends xs ys → length xs ≤ length ys
longer xs ys more =
    let both : length ys ≡ length xs + length more.more = ap length more.is ∙ length-append xs more.more in
    omega (arith, both)

module _ {N S : Type 0} (u : Universe N S) where
  -- the candidates of a clause are registered
  pub candidates_seen : (root : Demands) (notes : Notes N S) → IsEncoding u root notes → (place : ℕ) (s : S) → Contains (candidates_at u notes place) s →
      Contains notes.seen s
  candidates_seen root notes encoding place s h = by (slice_get notes.kinds place) refl h
    where
      by : (o : Option (ClauseKind N S)) → slice_get notes.kinds place ≡ o → Contains (option_map_or (wanted u) o []) s → Contains notes.seen s
      by (Some kind) at listed = asked_seen u s root notes encoding kind (place_in notes.kinds place kind at) listed
      by None at listed = absurd (none_in s listed)

  -- the candidates of a clause are the same after the notes grew
  module _ (old new : Notes N S) (kinds : Extends old.kinds new.kinds) where
    pub candidates_same : (place : ℕ) → place < length old.kinds → candidates_at u new place ≡ candidates_at u old place
    candidates_same place below = ap (λ o. option_map_or (wanted u) o []) (same_place old.kinds new.kinds kinds place below)

    pub listed_on : (from : ℕ) (s : S) → IsListedFrom u old from s → IsListedFrom u new from s
    listed_on from s l =
        let Has : List S → Type 0 = λ list. Contains list s in
        let more : length old.kinds ≤ length new.kinds = longer old.kinds new.kinds kinds in
        record { place = l.place; later = l.later; below = omega (arith, l.below, more); listed = subst Has (sym (candidates_same l.place l.below)) l.listed }

    -- candidates that were read early stay read
    pub hints_grown : Extends old.read new.read → (from until : ℕ) → until ≤ length old.kinds → AreHintsReadTo u from until old →
        AreHintsReadTo u from until new
    hints_grown read from until within h = record {
      each = λ place low high.
          let P : S → Type 0 = λ s. IsHinted u s → Contains old.read s in
          let P' : S → Type 0 = λ s. IsHinted u s → Contains new.read s in
          let Done : List S → Type 0 = λ list. AreReadIfHinted u new list in
          subst Done (sym (candidates_same place (omega (arith, high, within))))
          (All-weaker P P' (λ s k hinted. Extends-within old.read new.read read s (k hinted)) (candidates_at u old place) (h.each place low high));
    }

  pub listed_later : (notes : Notes N S) (from place : ℕ) → from ≤ place → (s : S) → IsListedFrom u notes place s → IsListedFrom u notes from s
  listed_later notes from place more s l = record { place = l.place; later = omega (arith, more, l.later); below = l.below; listed = l.listed }

  pub hints_none : (from : ℕ) (notes : Notes N S) → AreHintsReadTo u from from notes
  hints_none from notes = record { each = λ place low high. absurd (omega (arith, low, high)) }

  pub hints_joined : (from place until : ℕ) (notes : Notes N S) → AreHintsReadTo u from place notes → AreHintsReadTo u place until notes →
      AreHintsReadTo u from until notes
  hints_joined from place until notes first second = record {
    each = λ k low high. ⊎_elim (λ (less : k < place). first.each k low less) (λ (more : place ≤ k). second.each k more high) (cases_lt k place);
  }

  pub hints_until : (from until place : ℕ) (notes : Notes N S) → until ≤ place → AreHintsReadTo u from place notes → AreHintsReadTo u from until notes
  hints_until from until place notes most h = record { each = λ k low high. h.each k low (omega (arith, high, most)) }

  pub hints_at : (place : ℕ) (notes : Notes N S) → AreReadIfHinted u notes (candidates_at u notes place) → AreHintsReadTo u place (place + 1) notes
  hints_at place notes h = record {
    each = λ k low high. let same : k ≡ place = omega (arith, low, high) in
        let Done : ℕ → Type 0 = λ j. AreReadIfHinted u notes (candidates_at u notes j) in subst Done (sym same) h;
  }

  module _ (set : List S) where
    pub hinted_none : (from : ℕ) (notes : Notes N S) → IsHintedReading u set from notes notes
    hinted_none from notes = record { reading = IsReadingOf-same u set (IsListedFrom u notes from) notes; near = λ root seeds packages near all. near }

    pub hinted_trans : (from : ℕ) (one two three : Notes N S) → IsHintedReading u set from one two →
        IsHintedReading u set from two three → IsHintedReading u set from one three
    hinted_trans from one two three first second =
        record {
          reading = IsReadingOf-trans u set (IsListedFrom u three from) one two three
              (IsReadingOf-weaker u set (IsListedFrom u two from) (IsListedFrom u three from) (λ s l.
              listed_on two three second.reading.growth.numbered from s l) one two
              first.reading)
              second.reading;
          near = λ other seeds packages near all. second.near other seeds packages (first.near other seeds packages near all) all;
        }

    pub hinted_later : (from place : ℕ) → from ≤ place → (old new : Notes N S) → IsHintedReading u set place old new → IsHintedReading u set from old new
    hinted_later from place more old new h = record {
      reading = IsReadingOf-weaker u set (IsListedFrom u new place) (IsListedFrom u new from) (λ s l. listed_later new from place more s l) old new h.reading;
      near = h.near;
    }

    -- a candidate of a clause was read
    pub hinted_one : (place : ℕ) (s : S) (first old new : Notes N S) → place < length first.kinds →
        Contains (candidates_at u first place) s → Extends first.kinds new.kinds → Contains old.seen s → IsReadingOf u set (λ t. s ≡ t) old new → IsHintedReading u set place old new
    hinted_one place s first old new below listed kinds seen reading =
        let at : IsListedFrom u first place s = record { place = place; later = omega arith; below = below; listed = listed } in
        let here : IsListedFrom u new place s = listed_on first new kinds place s at in
        let Listed : S → Type 0 = λ t. IsListedFrom u new place t in
        record {
          reading = IsReadingOf-weaker u set (λ t. s ≡ t) (IsListedFrom u new place) (λ t same. subst Listed same here) old new reading;
          near = λ other seeds packages near all.
              let Near : S → Type 0 = λ t. IsNear u other seeds t in
              near_read u other seeds packages set (λ t. s ≡ t) old new reading near all (λ t same. subst Near same (near.seen s seen));
        }

    -- the notes are read as far as before for the set
    pub so_far_on : (root : Demands) (Reads : S → Type 0) (old new : Notes N S) → IsReadSoFar u root set old → IsReadingOf u set Reads old new →
        IsReadSoFar u root set new
    so_far_on root Reads old new so reading = record {
      half = reading.keeps root so.half;
      set_read = λ s h. Extends-within old.read new.read reading.read s (so.set_read s h);
      none = record { none = λ e left met. ⊎_elim (λ (before : IsLeft old e). so.none.none e before met) (λ never. never met) (reading.unmet e left) };
    }

    -- the packages that were asked are still exactly those that are called for
    pub asked_on : (root : Demands) (Reads : S → Type 0) (before : List N) (old new : Notes N S) → IsReadSoFar u root set old →
        IsReadingOf u set Reads old new → AreAsked (IsCalledFor u root old.read set) before old.asked →
        AreAsked (IsCalledFor u root new.read set) before new.asked
    asked_on root Reads before old new so reading asked =
        let after : IsReadSoFar u root set new = so_far_on root Reads old new so reading in
        let later : IsWithin old.read new.read = λ s h. Extends-within old.read new.read reading.read s h in
        record {
          stays = λ n h. reading.growth.asked n (asked.stays n h);
          only = λ n h. ⊎_elim
              (λ (was : Contains old.asked n). ⊎_elim
              (λ (earlier : Contains before n). inl earlier)
              (λ w. inr (w.0, IsPresent-within w.0 old.read new.read later w.1, w.2))
              (asked.only n was))
              (λ w. inr (BySolvable w.0, w.1, w.2))
              (reading.called (to_ask n) h);
          all = λ n called. demanded_asked u set root new after.half after.none called.0 called.1 n called.2;
        }

    pub more_on : (old mid new : Notes N S) → IsReadMore u set old mid → IsReadingOf u set (IsListedFrom u new (length old.kinds)) mid new →
        IsReadMore u set old new
    more_on old mid new more reading = record {
      growth = IsGrowth-trans old mid new more.growth reading.growth;
      read = Extends-trans old.read mid.read new.read more.read reading.read;
      reads = λ s h. ⊎_elim
          (λ (was : Contains mid.read s). ⊎_elim
          (λ (earlier : Contains old.read s). inl earlier)
          (λ w. ⊎_elim (λ (chosen : Contains set s). inr (inl chosen)) (λ l.
          inr (inr (listed_on mid new reading.growth.numbered (length old.kinds) s l))) w)
          (more.reads s was))
          (λ l. inr (inr l))
          (reading.reads s h);
      taken = λ i e at. ⊎_elim (λ still. inl (same_deferred i e still)) (λ met. inr met) (more.taken i e at);
      exempt = reading.growth.exempt ∙ more.exempt;
    }
      where
        same_deferred : (i : ℕ) (e : Deferred S) → slice_get mid.deferred i ≡ Some (Some e) → slice_get new.deferred i ≡ Some (Some e)
        same_deferred i e at = same_place mid.deferred new.deferred reading.deferred i (slice_get_within mid.deferred i (Some e) at) ∙ at

-- whether anything was read, over two steps
pub HasRead-then : {N S : Type 0} (old mid new : Notes N S) (any : Bool) → HasRead old mid any → HasRead mid new true → HasRead old new true
HasRead-then old mid new true first second = omega (arith, first, second)
HasRead-then {N} {S} old mid new false first second = let Longer : Notes N S → Type 0 = λ n. length n.read < length new.read in subst Longer first second

-- the changes of all steps
pub progress_then : {N S : Type 0} (old mid new : Notes N S) (read fired hinted : Bool) → IsProgress old mid (progress_by read fired) → HasRead mid new hinted →
    IsProgress old new (progress_by (read || hinted) fired)
progress_then old mid new true fired true before then = omega (arith, before, then)
progress_then {N} {S} old mid new true fired false before then = let Longer : Notes N S → Type 0 = λ n. length old.read < length n.read in
    subst Longer (sym then) before
progress_then {N} {S} old mid new false true true before then = let Longer : List S → Type 0 = λ list. length list < length new.read in
    subst Longer before.0 then
progress_then {N} {S} old mid new false false true before then = let Longer : Notes N S → Type 0 = λ n. length n.read < length new.read in
    subst Longer before then
progress_then {N} {S} old mid new false true false before then = let Made : Notes N S → Type 0 = λ n. (n.read ≡ old.read) × (left_count n < left_count old) in
    subst Made (sym then) before
progress_then old mid new false false false before then = then ∙ before

-- no candidate of a package without hints is hinted
pub unhinted : {N S : Type 0} (u : Universe N S) (hintless : Option N) (n : N) (s : S) → hintless ≡ Some n → IfSome hintless (HintsAtNone u) →
    n ≡ u.name s → IsHinted u s → ⊥
unhinted {N = N} {S = S} u hintless n s is known named covered =
    let Known : Option N → Type 0 = λ h. IfSome h (HintsAtNone u) in
    let Covered : Hint S → Type 0 = λ h. Covers h s in
    subst Covered (ap (λ m. (u.package_named m).hint) (sym named) ∙ subst Known is known) covered
