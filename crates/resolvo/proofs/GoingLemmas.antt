-- The turns of soft requirements.
use Rattle.std.proofs.Common.{◌≡◌, ℕ, ◌<◌, ◌≤◌, ◌⊎◌, List, [], ◌∷◌, rules, true, false, length, take, arith, inl, inr}
use Rattle.std.proofs.Common.{refl, sym, ap, ◌∙◌, subst, ⊎_elim, All, Contains, get_or, Some}
use Rattle.std.specs.Option.{option_map, option_map_or}
use Rattle.resolver_clause_store.specs.FirstChoice.{TakesFirstChoices}
use Rattle.resolver_clause_store.specs.Laws.{HasLawfulPackages}
use Rattle.resolver_clause_store.specs.Lists.{HasNoRepeats, IsWithin}
use Rattle.resolver_clause_store.specs.Outcomes.{IsFinished}
use Rattle.resolver_clause_store.specs.declared.RequirementClause.{RequirementClause}
use Rattle.resolver_clause_store.specs.Near.{IsNear}
use Rattle.resolver_clause_store.specs.TrailView.{KeepsPlaces, length_of, slot_of, variable_at, variable_count}
use Rattle.resolver_clause_store.specs.Universe.{Universe, Demands}
use Rattle.resolver_clause_store.specs.Literals.{Literal}
use Rattle.resolver_clause_store.specs.declared.Origin.{Origin}
use Rattle.resolver_clause_store.specs.declared.Origin.TheVariants.{Solvable}
use Rattle.resolver_clause_store.specs.declared.Reason.{Reason}
use Rattle.resolver_clause_store.specs.declared.Reason.TheVariants.{Assumed, Decided, Forced}
use Rattle.resolver_clause_store.specs.declared.Slot.{Slot}
use Rattle.resolver_clause_store.specs.declared.Trail.{Trail}
use Rattle.resolver_clause_store.proofs.KeptLemmas.{slot_at}
use Rattle.resolver_clause_store.proofs.PlaceLemmas.{Keeps-same, Keeps-trans}
use Rattle.resolver_clause_store.proofs.SlotLemmas.{slot-within}
use Rattle.resolver_clause_store.specs.Variables.{Keeps}
use Rattle.std.proofs.lemmas.List.Elements.{Contains-get_or}
use Rattle.resolver_encoding.proofs.EncodingLemmas.{Extends-same, Extends-trans, Extends-within}
use Rattle.resolver_encoding.specs.Atoms.{Atom, atom}
use Rattle.resolver_encoding.specs.Encodings.{Extends, IsEncoding, Notes}
use Rattle.resolver_encoding.specs.Notes.{notes_in}
use Rattle.resolver_encoding.specs.declared.encoding.Encoding.{Encoding}
use Rattle.resolver_encoding.specs.Reach.{AreNear}
use Rattle.resolver_encoding.specs.Trails.{AreAssumed, origin_at, solvables_before, value_of}
use Rattle.resolver_encoding.specs.ReadState.{AreSeeds}
use Rattle.resolver_encoding.specs.SoFar.{IsReadMore, IsReadSoFar}
use Rattle.resolver_encoding.specs.TrailAtoms.{IsAnswerBy}
use Rattle.resolver_encoding.specs.Truth.{HasLawfulSolvables}
use Rattle.resolver_encoding.specs.Values.{requirement_numbers}
use Rattle.resolver_encoding.proofs.Bridge.{before-back, chosen_once, finished_is_valid, true_before}
use Rattle.resolver_encoding.proofs.PromiseLemmas.{finished_is_first}
use Rattle.resolver_encoding.proofs.TrailLemmas.{same_before, same_origin}
use Rattle.resolvo.specs.ClauseSearches.{IsConsistent, IsLoaded, KeepsTurn, SetsNone, StaysBookmarked, held_of, kept_of}
use Rattle.resolvo.specs.ClauseSearches.{numbers_of, trail_of}
use Rattle.resolvo.specs.RoundStates.{AreRounds, GoesOn, HasFollowed, IsAnswering, IsFollowingFrom, IsSearchOf, IsStill, IsUpToDate, KeepsNear}
use Rattle.resolvo.specs.RoundStates.{chosen_of, notes_of}
use Rattle.resolvo.specs.declared.clause_search.ClauseSearch.{ClauseSearch}
use Rattle.resolvo.specs.declared.rounds.Rounds.{Rounds}
use Rattle.resolvo.proofs.DrawnLemmas.{values_drawn}
use Rattle.resolvo.proofs.TurnLemmas.{decided-assumed, forced-assumed, keeps-none, turn-trans}
use Rattle.resolver_clause_store.proofs.KeptLemmas.{at_most}
use Rattle.resolvo.proofs.RoundLemmas.{keeps_itself, keeps_more, keeps_searched, keeps_trans, read_first}

-- a trail in which no variable got a value is no longer than before
pub not_longer : (old new : Trail) → SetsNone old new → length_of new ≤ length_of old
not_longer old new set = at_most (length_of new) (length_of old) (λ place below.
    let s = slot_at new place below in
    omega (arith, s.2, (old.listed _ s.0 (set.was _ s.0 s.1)).0))

-- whether a value was assumed
assumed_or_not : (r : Reason) → (r ≡ Assumed) ⊎ (r ≡ Assumed → ⊥)
assumed_or_not (Decided n) = inr (λ e. decided-assumed n e)
assumed_or_not (Forced n) = inr (λ e. forced-assumed n e)
assumed_or_not Assumed = inl refl

-- a value that was not assumed is in a given clause
pub drawn_or_assumed : (it : ClauseSearch) (given : List (List Literal)) (numbers : List ℕ) → IsConsistent it → IsLoaded given numbers it →
    (variable : ℕ) (slot : Slot) → slot_of (trail_of it) variable ≡ Some slot →
    (slot.reason ≡ Assumed) ⊎ ((clause : List Literal) × Contains given clause ×
    Contains clause (record { variable = variable; positive = slot.value }))
drawn_or_assumed it given numbers consistent loaded variable slot at = ⊎_elim
    (λ (is : slot.reason ≡ Assumed). inl is)
    (λ (not : slot.reason ≡ Assumed → ⊥). inr (values_drawn it given numbers consistent loaded variable slot at not))
    (assumed_or_not slot.reason)

-- there are requirement clauses with these numbers
clauses_numbered : (numbers : List ℕ) → (requirements : List RequirementClause) × (numbers_of requirements ≡ numbers)
clauses_numbered [] = ([], refl)
clauses_numbered (n ∷ numbers) =
    let w = clauses_numbered numbers in (record { number = n; of_root = false; is_union = false } ∷ w.0, ap (λ list. n ∷ list) w.1)

module _ {N S : Type 0} where
  -- loading leaves the held entries
  pub still_loaded : (u : Universe N S) (old : Rounds N S) (new : ClauseSearch) → AreRounds u old → IsConsistent new →
      SetsNone (trail_of old.search) (trail_of new) → StaysBookmarked old.search new → KeepsTurn old.search new → IsStill old →
      IsStill (record old { search = new })
  still_loaded u old new rounds consistent set bookmarked turn still =
      let trail : Trail = trail_of old.search in
      let origins : List (Origin N S) = (notes_of old).origins in
      let size : length_of (trail_of new) ≡ length_of trail =
      omega (arith, not_longer trail (trail_of new) set, consistent.turn.inside, turn.held, still.held) in
      let Count : ℕ → Type 0 = λ n. KeepsPlaces trail (trail_of new) n in
      let kept : KeepsPlaces trail (trail_of new) (length_of trail) =
      subst Count (turn.held ∙ still.held) (turn.places trail (keeps_itself trail (held_of old.search) (omega (arith, still.held)))) in
      let same : solvables_before origins (trail_of new) (length_of trail) ≡ solvables_before origins trail (length_of trail) =
      same_before origins origins trail (trail_of new) (length_of trail) (Keeps-same origins) rounds.variables kept (length_of trail) (omega arith) in
      record {
        held = turn.held ∙ still.held ∙ sym size;
        bookmarked = bookmarked still.bookmarked;
        chosen = still.chosen ∙ sym same ∙ ap (solvables_before origins (trail_of new)) (sym size);
      }

  -- the chosen solvables are near the seeds
  module _ (u : Universe N S) (root : Demands) (notes : Notes N S) (trail : Trail) (size : variable_count trail ≡ length notes.origins)
      (drawn : (variable : ℕ) (slot : Slot) → slot_of trail variable ≡ Some slot → (slot.reason ≡ Assumed) ⊎
      ((clause : List Literal) × Contains notes.table clause × Contains clause (record { variable = variable; positive = slot.value })))
      (positives : (clause : List Literal) → Contains notes.table clause → (l : Literal) → Contains clause l → l.positive ≡ true → (s : S) →
      origin_at notes.origins l.variable ≡ Solvable s → Contains notes.seen s)
      (done taken refused : List S) (packages : List N) (within : IsWithin taken done) (assumed : AreAssumed notes.origins taken refused trail)
      (near : AreNear u root done packages notes) where
    near_at : (v : ℕ) (slot : Slot) (s : S) → slot_of trail v ≡ Some slot → origin_at notes.origins v ≡ Solvable s → slot.value ≡ true → IsNear u root done s
    near_at v slot s at origin value = ⊎_elim
        (λ (reason : slot.reason ≡ Assumed).
        let w = assumed.taken v slot at reason value in
        let Same : Origin N S → Type 0 = λ o. o ≡ Solvable s in
        let same : Solvable w.0 ≡ Solvable s = subst Same w.1 origin in
        let one : w.0 ≡ s = search rules in
        let NearOne : S → Type 0 = λ x. IsNear u root done x in
        subst NearOne one (0, within w.0 w.2))
        (λ c. near.seen s (positives c.0 c.1 (record { variable = v; positive = slot.value }) c.2 value s origin))
        (drawn v slot at)

    pub chosen_near : (s : S) → Contains (solvables_before notes.origins trail (length_of trail)) s → IsNear u root done s
    chosen_near s h =
        let w = before-back notes.origins trail size (length_of trail) (atom (Solvable s) true) (true_before notes.origins trail (length_of trail) s h) in
        let v : ℕ = variable_at trail w.0 in
        let p = slot_at trail w.0 w.1 in
        let value : value_of trail v ≡ true = ap (λ (a : Atom N S). a.positive) w.2 in
        near_at v p.0 s p.1 (ap (λ (a : Atom N S). a.origin) w.2) (sym (ap (λ o. option_map_or (λ (q : Slot). q.value) o false) p.1) ∙ value)

    pub all_chosen_near : (keys : List S) → keys ≡ solvables_before notes.origins trail (length_of trail) → All (IsNear u root done) keys
    all_chosen_near keys is = λ k d below.
        let s : S = get_or keys k d in
        let Has : List S → Type 0 = λ list. Contains list s in
        chosen_near s (subst Has is (Contains-get_or keys k d below))

  -- the assumed variables stay assumed
  pub assumed_still : (origins more : List (Origin N S)) (old new : Trail) (taken refused : List S) → Keeps origins more → variable_count old ≤ length origins →
      ((variable : ℕ) (slot : Slot) → slot_of new variable ≡ Some slot → slot.reason ≡ Assumed → slot_of old variable ≡ Some slot) →
      AreAssumed origins taken refused old → AreAssumed more taken refused new
  assumed_still origins more old new taken refused keeps known stays assumed =
      let same : (v : ℕ) (slot : Slot) → slot_of old v ≡ Some slot → origin_at more v ≡ origin_at origins v = λ v slot at.
      let inside : v < variable_count old = slot-within _ v slot.place (ap (option_map (λ (s : Slot). s.place)) at) in
      same_origin origins more old old 0 keeps known
      (record { were = omega arith; are = omega arith; variables = λ place below. refl; slots = λ variable s is below. is }) v
      (omega (arith, inside, known)) in
      record {
        taken = λ v slot at reason value. let before = stays v slot at reason in
            let w = assumed.taken v slot before reason value in (w.0, same v slot before ∙ w.1, w.2);
        left_out = λ v slot at reason value. let before = stays v slot at reason in
            let w = assumed.left_out v slot before reason value in (w.0, same v slot before ∙ w.1, w.2);
      }

  -- one part of a turn after another
  pub goes_trans : (u : Universe N S) (one two three : Rounds N S) → variable_count (trail_of one.search) ≤ length (notes_of one).origins → GoesOn u one two →
      GoesOn u two three → GoesOn u one three
  goes_trans u one two three known first second = record {
    read = keeps_trans u one two three first.read second.read;
    near = λ root done taken refused packages so within assumed near.
        second.near root done taken refused packages (first.read root so) within
        (assumed_still (notes_of one).origins (notes_of two).origins (trail_of one.search)
        (trail_of two.search) taken refused first.origins known first.turn.assumed.was assumed)
        (first.near root done taken refused packages so within assumed near);
    origins = Keeps-trans (notes_of one).origins (notes_of two).origins (notes_of three).origins first.origins second.origins;
    table = Extends-trans (notes_of one).table (notes_of two).table (notes_of three).table first.table second.table;
    exempt = second.exempt ∙ first.exempt;
    asked = λ n h. second.asked n (first.asked n h);
    seen = λ s h. second.seen s (first.seen s h);
    turn = turn-trans one.search two.search three.search first.turn second.turn;
  }

  -- a search alone is a part of a turn
  pub goes_searched : (u : Universe N S) (old new : Rounds N S) → IsSearchOf old new → KeepsTurn old.search new.search → GoesOn u old new
  goes_searched u old new same turn =
      let WithEncoding : Encoding N S → Type 0 = λ e. Keeps (notes_of old).origins (notes_in e).origins in
      record {
        read = keeps_searched u old new new same (λ root so. so);
        near = λ root done taken refused packages so within assumed near. let Near : Encoding N S → Type 0 = λ e. AreNear u root done packages (notes_in e) in
            subst Near (sym same.encoding) near;
        origins = subst WithEncoding (sym same.encoding) (Keeps-same (notes_of old).origins);
        table = let Table : Encoding N S → Type 0 = λ e. Extends (notes_of old).table (notes_in e).table in
            subst Table (sym same.encoding) (Extends-same (notes_of old).table);
        exempt = ap (λ (e : Encoding N S). (notes_in e).exempt) same.encoding;
        asked = let Asked : Encoding N S → Type 0 = λ e. IsWithin (notes_of old).asked (notes_in e).asked in subst Asked (sym same.encoding) (λ n h. h);
        seen = let Seen : Encoding N S → Type 0 = λ e. IsWithin (notes_of old).seen (notes_in e).seen in subst Seen (sym same.encoding) (λ s h. h);
        turn = turn;
      }

  -- one reading is a part of a turn
  module _ (u : Universe N S) (old mid : Rounds N S) (from : ℕ) (keys : List S) (encoding : Encoding N S) (up : IsUpToDate old)
      (following : IsFollowingFrom old mid from) (followed : HasFollowed old mid) (is : keys ≡ chosen_of mid)
      (more : IsReadMore u keys (notes_of mid) (notes_in encoding))
      (reads : (root : Demands) → IsReadSoFar u root (take from keys) (notes_of mid) → IsReadSoFar u root keys (notes_in encoding))
      (near_after : (root : Demands) (seeds : List S) (packages : List N) → IsReadSoFar u root (take from keys) (notes_of mid) →
      AreNear u root seeds packages (notes_of mid) → All (IsNear u root seeds) keys → AreNear u root seeds packages (notes_in encoding))
      (asked_stays : IsWithin (notes_of mid).asked (notes_in encoding).asked)
      (drawn : (variable : ℕ) (slot : Slot) → slot_of (trail_of old.search) variable ≡ Some slot → (slot.reason ≡ Assumed) ⊎
      ((clause : List Literal) × Contains (notes_of old).table clause ×
      Contains clause (record { variable = variable; positive = slot.value })))
      (positives : (root : Demands) → IsEncoding u root (notes_of old) → (clause : List Literal) → Contains (notes_of old).table clause → (l : Literal) →
      Contains clause l → l.positive ≡ true → (s : S) → origin_at (notes_of old).origins l.variable ≡ Solvable s →
      Contains (notes_of old).seen s) where
    keeps_near : KeepsNear u old (record mid { encoding = encoding })
    keeps_near root done taken refused packages so within assumed near =
        let Near : Encoding N S → Type 0 = λ e. AreNear u root done packages (notes_in e) in
        near_after root done packages (read_first u root old mid from keys following is so) (subst Near (sym following.encoding) near)
        (all_chosen_near u root (notes_of old) (trail_of old.search) up.variables drawn
        (positives root so.half.encoding) done taken refused packages within assumed near keys (is ∙ followed.chosen))

    pub goes_read : GoesOn u old (record mid { encoding = encoding })
    goes_read =
        let Origins : Encoding N S → Type 0 = λ e. Keeps (notes_in e).origins (notes_in encoding).origins in
        let Table : Encoding N S → Type 0 = λ e. Extends (notes_in e).table (notes_in encoding).table in
        let Asked : Encoding N S → Type 0 = λ e. IsWithin (notes_in e).asked (notes_in encoding).asked in
        let Seen : Encoding N S → Type 0 = λ e. IsWithin (notes_in e).seen (notes_in encoding).seen in
        record {
          read = keeps_more u old mid from keys encoding following is reads;
          near = keeps_near;
          origins = subst Origins following.encoding more.growth.origins;
          table = subst Table following.encoding more.growth.table;
          exempt = more.growth.exempt ∙ ap (λ (e : Encoding N S). (notes_in e).exempt) following.encoding;
          asked = subst Asked following.encoding asked_stays;
          seen = subst Seen following.encoding (Extends-within (notes_of mid).seen (notes_in encoding).seen more.growth.seen);
          turn = followed.turn;
        }

  -- the chosen solvables are an answer if a finished search left nothing to read
  pub answering : (u : Universe N S) (old new : Rounds N S) → HasLawfulSolvables u → HasLawfulPackages u →
      IsUpToDate old → AreRounds u old → HasFollowed old new → notes_of new ≡ notes_of old → kept_of new.search ≡ length_of (trail_of new.search) →
      ((requirements : List RequirementClause) → numbers_of requirements ≡ requirement_numbers (notes_of old).kinds →
      IsFinished (notes_of old).table requirements (trail_of old.search)) → IsAnswering u new
  answering u old new lawful packages up rounds followed same bookmarked ends =
      let w = clauses_numbered (requirement_numbers (notes_of old).kinds) in
      let finished = ends w.0 w.1 in
      let With : Notes N S → Trail → List S → Type 0 = λ notes trail chosen. (root : Demands) (seeds refused : List S) → IsReadSoFar u root chosen notes →
      AreAssumed notes.origins seeds refused trail → AreSeeds u seeds chosen notes.asked notes.seen notes.exempt →
      IsAnswerBy u root chosen seeds notes.exempt in
      let here : List S = solvables_before (notes_of old).origins (trail_of old.search) (length_of (trail_of old.search)) in
      let answer : With (notes_of old) (trail_of old.search) here =
      λ root seeds refused so assumed seeded. finished_is_valid u root (notes_of old) w.0
      (trail_of old.search) seeds refused lawful packages so assumed seeded w.1 up.variables finished in
      let OfNotes : Notes N S → Type 0 = λ n. With n (trail_of old.search) here in
      let OfTrail : Trail → Type 0 = λ t. With (notes_of new) t here in
      let OfChosen : List S → Type 0 = λ list. With (notes_of new) (trail_of new.search) list in
      let Once : List S → Type 0 = λ list. HasNoRepeats list in
      let Promises : Notes N S → Trail → List S → Type 0 = λ notes trail chosen. (root : Demands) → IsReadSoFar u root chosen notes →
      AreAssumed notes.origins [] [] trail → TakesFirstChoices u root chosen in
      let promise : Promises (notes_of old) (trail_of old.search) here =
      λ root so assumed. finished_is_first u root (notes_of old) w.0
      (trail_of old.search) lawful packages so assumed w.1 up.variables finished in
      let PromisesOf : Notes N S → Type 0 = λ n. Promises n (trail_of old.search) here in
      let PromisesOn : Trail → Type 0 = λ t. Promises (notes_of new) t here in
      let PromisesFor : List S → Type 0 = λ list. Promises (notes_of new) (trail_of new.search) list in
      record {
        bookmarked = bookmarked;
        chosen = followed.chosen ∙ ap (λ (n : Notes N S). solvables_before n.origins (trail_of old.search) (length_of (trail_of old.search))) (sym same) ∙
            ap (λ (t : Trail). solvables_before (notes_of new).origins t (length_of t)) (sym followed.trail);
        variables = ap variable_count followed.trail ∙ up.variables ∙ ap (λ (n : Notes N S). length n.origins) (sym same);
        once = subst Once (sym followed.chosen)
            (chosen_once (notes_of old).origins (trail_of old.search) rounds.reading.so_far.half.encoding.distinct up.variables);
        answer = subst OfChosen (sym followed.chosen) (subst OfTrail (sym followed.trail) (subst OfNotes (sym same) answer));
        promise = subst PromisesFor (sym followed.chosen) (subst PromisesOn (sym followed.trail) (subst PromisesOf (sym same) promise));
      }

  pub goes_begin : (u : Universe N S) (r : Rounds N S) → GoesOn u r r
  goes_begin u r = record {
    read = λ root so. so;
    near = λ root done taken refused packages so within assumed near. near;
    origins = Keeps-same (notes_of r).origins;
    table = Extends-same (notes_of r).table;
    exempt = refl;
    asked = λ n h. h;
    seen = λ s h. h;
    turn = keeps-none r.search;
  }
