-- The effect of the turn of a soft requirement on the rounds.
use Rattle.std.proofs.Common.{◌≡◌, ◌≢◌, ℕ, suc, ◌+◌, ◌-◌, ◌<◌, ◌≤◌, ◌⊎◌, List, [], ◌∷◌, Bool, true, false, ◌++◌, append-nil, length, take}
use Rattle.std.proofs.Common.{arith, inl, inr, refl, sym, ap, ◌∙◌, subst, ⊎_elim, Contains, Some, None}
use Rattle.std.specs.List.{flat_map}
use Rattle.std.specs.Prelude.{slice_get}
use Rattle.std.specs.Option.{option_map, option_map_or}
use Rattle.std.proofs.Math.Seq.{take-append_seam}
use Rattle.std.proofs.lemmas.Bool.{cases_Bool, cases_eq, cases_lt, false≢true}
use Rattle.std.proofs.lemmas.Option.{same_Some, none-some, get_or_from_slice_get}
use Rattle.std.proofs.lemmas.List.Elements.{Contains-append_left, Contains-push_cases}
use Rattle.resolver_clause_store.specs.Caches.{IsTrueCache}
use Rattle.resolver_clause_store.specs.Laws.{IsIdentity}
use Rattle.resolver_clause_store.specs.Lists.{HasNoRepeats, IsWithin}
use Rattle.resolver_clause_store.specs.Near.{IsNamed, IsNear}
use Rattle.resolver_clause_store.specs.SoftRun.{Exempts, FitsNowhere, IsAsked, SoftRun, asked_before, not_asked, options, own_packages, start}
use Rattle.resolver_clause_store.specs.Slots.{is_decided}
use Rattle.resolver_clause_store.specs.TrailView.{Gains, IsCut, KeepsPlaces, length_of, level_of, slot_of, variable_at, variable_count}
use Rattle.resolver_clause_store.specs.Universe.{Universe, Demands}
use Rattle.resolver_clause_store.specs.Valid.{IsValid}
use Rattle.resolver_clause_store.specs.Variables.{AreDistinct, Keeps}
use Rattle.resolver_clause_store.specs.Literals.{Literal}
use Rattle.resolver_clause_store.specs.declared.Origin.{Origin}
use Rattle.resolver_clause_store.specs.declared.Origin.TheVariants.{Root, Solvable}
use Rattle.resolver_clause_store.specs.declared.Reason.TheVariants.{Assumed, Decided}
use Rattle.resolver_clause_store.specs.declared.Slot.{Slot}
use Rattle.resolver_clause_store.specs.declared.SoftRequirement.{SoftRequirement}
use Rattle.resolver_clause_store.specs.declared.Trail.{Trail}
use Rattle.resolver_clause_store.proofs.KeptLemmas.{keeps_all, keeps_places, keeps_through, slot-back as keeps-back, slot_at}
use Rattle.resolver_clause_store.proofs.PlaceLemmas.{Keeps-same, Keeps-trans}
use Rattle.resolver_clause_store.proofs.SlotLemmas.{slot-within}
use Rattle.resolver_clause_store.proofs.TrailLemmas.{gains-cases, keeps-gains}
use Rattle.resolver_encoding.specs.Atoms.{Atom, atom}
use Rattle.resolver_encoding.specs.Encodings.{Extends, Notes}
use Rattle.resolver_encoding.specs.LeftOut.{IsLeftOut}
use Rattle.resolver_encoding.specs.Notes.{cache_in, notes_in}
use Rattle.resolver_encoding.specs.Reach.{AreNear}
use Rattle.resolver_encoding.specs.ReadState.{AreSeeds}
use Rattle.resolver_encoding.specs.SoFar.{IsReadSoFar}
use Rattle.resolver_encoding.specs.Trails.{AreAssumed, Follows, atoms_before, origin_at, solvable_if, solvables_before, value_of}
use Rattle.resolver_encoding.specs.Truth.{HasLawfulSolvables, Spares}
use Rattle.resolver_encoding.specs.Turns.{AsksOnly, IsAddition}
use Rattle.resolver_encoding.specs.declared.chosen.Chosen.{Chosen}
use Rattle.resolver_encoding.specs.declared.encoding.Encoding.{Encoding}
use Rattle.resolver_encoding.specs.Values.{requirement_numbers}
use Rattle.resolver_encoding.proofs.Bridge.{before-back, has_value, is_chosen, stands, true_before}
use Rattle.resolver_encoding.proofs.EncodingLemmas.{Extends-same, Extends-trans, Extends-within}
use Rattle.resolver_encoding.proofs.LeftOutLemmas.{left_out_more, left_out_nowhere, spares_exempting, spares_present}
use Rattle.resolver_encoding.proofs.TrailLemmas.{before_extends, follows_still, none_at, same_before, same_origin}
use Rattle.resolvo.specs.ClauseSearches.{IsConsistent, IsRootTurn, KeepsLoaded, KeepsBookmark, KeepsTurn, base_of, held_of, kept_of, trail_of}
use Rattle.resolvo.specs.RoundStates.{AreAtRest, AreRounds, GoesOn, HasAssumed, HasBookmark, HasTurned, IsAnswering, IsFollowingFrom, IsBetween, IsRefusing, IsSearchOf}
use Rattle.resolvo.specs.RoundStates.{IsStanding, IsStill, IsTurned, IsUnanswered, is_accepted, is_refused, was_chosen, chosen_of}
use Rattle.resolvo.specs.RoundStates.{notes_of}
use Rattle.resolvo.specs.declared.clause_search.ClauseSearch.{ClauseSearch}
use Rattle.resolvo.specs.declared.rounds.Rounds.{Rounds}
use Rattle.resolvo.proofs.RoundLemmas.{Keeps-longer, keeps_itself, so_far_less}
use Rattle.resolver_encoding.proofs.ReachLemmas.{asked_named}
use Rattle.resolvo.proofs.GoingLemmas.{assumed_still}
use Rattle.resolvo.proofs.RefusingLemmas.{trail_agrees}
use Rattle.resolver_clause_store.proofs.ListLemmas.{Contains-cons_cases as cons_cases, Contains-here as here, Contains-none as none_in, Contains-there as there}
use Rattle.std.proofs.lemmas.List.Elements.{Contains-push as last_in}
use Rattle.resolvo.proofs.TurnLemmas.{decided-assumed}

pub earlier_in : {X : Type 0} (xs : List X) (x y : X) → Contains xs y → Contains (xs ++ x ∷ []) y
earlier_in xs x y h = Contains-append_left xs (x ∷ []) y h

-- whether an element is in a list
pub in_or_not : {X : Type 0} (eq : X → X → Bool) → IsIdentity eq → (xs : List X) (x : X) → Contains xs x ⊎ (Contains xs x → ⊥)
in_or_not eq same [] x = inr (λ h. none_in x h)
in_or_not eq same (y ∷ xs) x = ⊎_elim
    (λ (e : eq y x ≡ true). let Among : _ → Type 0 = λ z. Contains (y ∷ xs) z in inl (subst Among (same.alone y x e) (here y xs)))
    (λ (apart : eq y x ≡ false). ⊎_elim
    (λ h. inl (there y xs x h))
    (λ never. inr (λ h. ⊎_elim (λ (e : y ≡ x). false≢true (sym apart ∙ ap (eq y) (sym e) ∙ same.itself y)) (λ t. never t) (cons_cases y xs x h)))
    (in_or_not eq same xs x))
    (cases_Bool (eq y x))

-- the last assumption stays while the turn goes on
pub still_assumed : (old new : ClauseSearch) (v : ℕ) → IsConsistent old → KeepsTurn old new → HasAssumed old v → HasAssumed new v
still_assumed old new v consistent turn it =
    let places : KeepsPlaces (trail_of old) (trail_of new) (held_of new) =
    turn.places (trail_of old) (keeps_itself (trail_of old) (held_of old) consistent.turn.inside) in
    let some : 0 < held_of old = consistent.turn.some it.base in
    record {
      base = omega (arith, it.base, turn.base);
      place = ap (λ n. variable_at (trail_of new) (n - 1)) turn.held ∙ places.variables (held_of old - 1) (omega (arith, some, turn.held)) ∙ it.place;
    }

pub assumed_inside : (it : ClauseSearch) (v : ℕ) → IsConsistent it → HasAssumed it v → v < variable_count (trail_of it)
assumed_inside it v consistent assumed =
    let w = slot_at (trail_of it) (held_of it - 1) (omega (arith, consistent.turn.some assumed.base, consistent.turn.inside)) in
    let inside : variable_at (trail_of it) (held_of it - 1) < variable_count (trail_of it) =
    slot-within _ (variable_at (trail_of it) (held_of it - 1)) w.0.place (ap (option_map (λ (slot : Slot). slot.place)) w.1) in
    omega (arith, inside, assumed.place)

module _ {N S : Type 0} where
  -- a solvable that a trail makes true has a true variable
  pub chosen_slot : (origins : List (Origin N S)) (trail : Trail) → variable_count trail ≡ length origins → (s : S) →
      Contains (solvables_before origins trail (length_of trail)) s →
      (v : ℕ) × (slot : Slot) × (slot_of trail v ≡ Some slot) × (slice_get origins v ≡ Some (Solvable s)) × (slot.value ≡ true)
  chosen_slot origins trail size s h =
      let w = before-back origins trail size (length_of trail) (atom (Solvable s) true) (true_before origins trail (length_of trail) s h) in
      let v : ℕ = variable_at trail w.0 in
      let p = slot_at trail w.0 w.1 in
      let inside : v < variable_count trail = slot-within _ v p.0.place (ap (option_map (λ (slot : Slot). slot.place)) p.1) in (
        v,
        p.0,
        p.1,
        stands origins trail size v (omega (arith, inside, size)) ∙ ap (λ (a : Atom N S). Some a.origin) w.2,
        sym (ap (λ o. option_map_or (λ (q : Slot). q.value) o false) p.1) ∙ ap (λ (a : Atom N S). a.positive) w.2,
      )

  -- a solvable with a true variable is one that the trail makes true
  pub slot_chosen : (origins : List (Origin N S)) (trail : Trail) → variable_count trail ≡ length origins → (v : ℕ) (slot : Slot) (s : S) →
      slot_of trail v ≡ Some slot → origin_at origins v ≡ Solvable s → slot.value ≡ true →
      Contains (solvables_before origins trail (length_of trail)) s
  slot_chosen origins trail size v slot s at origin value =
      let Entry : Origin N S → Bool → Type 0 = λ o b. Contains (atoms_before origins trail (length_of trail)) (atom o b) in
      let Valued : Bool → Type 0 = λ b. Entry (Solvable s) b in
      let Stands : Origin N S → Type 0 = λ o. Entry o slot.value in
      (is_chosen origins trail).each_chosen s
      (subst Valued value (subst Stands origin (has_value origins trail size (length_of trail) v slot at (trail.listed v slot at).0)))

  -- a solvable whose variable is not true is not chosen
  pub unchosen : (origins : List (Origin N S)) (trail : Trail) → AreDistinct origins → variable_count trail ≡ length origins → (v : ℕ) (s : S) →
      slice_get origins v ≡ Some (Solvable s) → ((slot : Slot) → slot_of trail v ≡ Some slot → slot.value ≡ true → ⊥) →
      Contains (solvables_before origins trail (length_of trail)) s → ⊥
  unchosen origins trail distinct size v s origin never h =
      let w = chosen_slot origins trail size s h in
      let same : w.0 ≡ v = distinct.same w.0 v (Solvable s) w.3 origin in
      never w.1 (ap (slot_of trail) (sym same) ∙ w.2) w.4

  -- the packages that were asked, if everything that was read is near the soft requirements
  pub asked_for : (u : Universe N S) (root : Demands) (chosen : List S) (soft : List (SoftRequirement S)) (notes : Notes N S) →
      IsReadSoFar u root chosen notes → AreNear u root (flat_map (options u) soft) (flat_map (own_packages u) soft) notes →
      IsAsked u root chosen soft notes.asked
  asked_for u root chosen soft notes so near = record { named = asked_named u root chosen notes so; near = near.asked }

  -- the rounds are right after clauses were added
  pub rounds_added : (u : Universe N S) (old : Rounds N S) (encoding : Encoding N S) → AreRounds u old →
      IsTrueCache u (cache_in encoding) → IsAddition u (notes_of old) (notes_in encoding) → AreRounds u (record old { encoding = encoding })
  rounds_added u old encoding rounds answers adds =
      let longer : length (notes_of old).origins ≤ length (notes_in encoding).origins =
      Keeps-longer (notes_of old).origins (notes_in encoding).origins Root adds.origins in
      let Requiring : List ℕ → Type 0 = λ list. Extends rounds.loaded.numbers list in
      let bookmark : HasBookmark old = rounds.bookmark in
      record {
        answers = answers;
        reading = record { root = rounds.reading.root; so_far = adds.stays.so_far rounds.reading.root (chosen_of old) rounds.reading.so_far };
        consistent = rounds.consistent;
        loaded = record {
          given = rounds.loaded.given;
          numbers = rounds.loaded.numbers;
          loaded = rounds.loaded.loaded;
          clauses = Extends-trans rounds.loaded.given (notes_of old).table (notes_in encoding).table rounds.loaded.clauses adds.table;
          requiring = subst Requiring (sym adds.plainly) rounds.loaded.requiring;
        };
        variables = omega (arith, rounds.variables, longer);
        bookmark = record {
          base = bookmark.base;
          follows = follows_still (notes_of old).origins (notes_in encoding).origins bookmark.base bookmark.base (length_of bookmark.base)
              adds.origins bookmark.known (keeps_itself bookmark.base (length_of bookmark.base) (omega arith)) old.chosen bookmark.follows;
          kept = bookmark.kept;
          known = omega (arith, bookmark.known, longer);
        };
      }

  pub still_added : (u : Universe N S) (old : Rounds N S) (encoding : Encoding N S) → AreRounds u old →
      Keeps (notes_of old).origins (notes_in encoding).origins → IsStill old → IsStill (record old { encoding = encoding })
  still_added u old encoding rounds keeps still =
      let trail : Trail = trail_of old.search in
      assumption (still.chosen ∙ sym (same_before (notes_of old).origins (notes_in encoding).origins trail trail (length_of trail) keeps rounds.variables
      (keeps_itself trail (length_of trail) (omega arith)) (length_of trail) (omega arith)))

  -- the state between turns stays right if clauses about near solvables were added
  module _ (u : Universe N S) (root : Demands) (taken refused seeds : List S) (packages : List N) (old : Rounds N S) (encoding : Encoding N S)
      (rounds : AreRounds u old) (adds : IsAddition u (notes_of old) (notes_in encoding)) (exempt : (notes_in encoding).exempt ≡ (notes_of old).exempt)
      (b : IsStanding u root taken refused seeds packages old) where
    pub standing_added : AreNear u root seeds packages (notes_in encoding) → IsStanding u root taken refused seeds packages (record old { encoding = encoding })
    standing_added near =
        let Seeds : List S → Type 0 = λ e. AreSeeds u taken (chosen_of old) (notes_in encoding).asked (notes_in encoding).seen e in
        let Exempt : List S → Type 0 = λ e. IsWithin e taken in
        record {
          read = adds.stays.so_far root (chosen_of old) b.read;
          once = b.once;
          assumed = assumed_still (notes_of old).origins (notes_in encoding).origins (trail_of old.search)
              (trail_of old.search) taken refused adds.origins rounds.variables (λ v slot at reason. at) b.assumed;
          left_out = λ t h. left_out_more (notes_of old).origins (notes_in encoding).origins (notes_of old).table (notes_in encoding).table (chosen_of old)
              (chosen_of old) t adds.origins adds.table (λ x k. k) (b.left_out t h);
          seeded = subst Seeds (sym exempt) (record {
            seed_chosen = b.seeded.seed_chosen;
            seed_registered = λ t h. Extends-within (notes_of old).seen (notes_in encoding).seen adds.seen t (b.seeded.seed_registered t h);
            seed_free = λ t h. ⊎_elim (λ e. inl e) (λ asked. inr (adds.asked (u.name t) asked)) (b.seeded.seed_free t h);
          });
          within = b.within;
          exempt = subst Exempt (sym exempt) b.exempt;
          near = near;
        }

    -- a seed was registered
    pub standing_registered : (s : S) → Contains seeds s → ((t : S) → Contains (notes_in encoding).seen t → Contains (notes_of old).seen t ⊎ (t ≡ s)) →
        (notes_in encoding).asked ≡ (notes_of old).asked → IsStanding u root taken refused seeds packages (record old { encoding = encoding })
    standing_registered s seed only asked =
        let Near : S → Type 0 = λ t. IsNear u root seeds t in
        let Read : List S → Type 0 = λ list. (t : S) → Contains list t → Near t in
        let Asked : List N → Type 0 = λ list. (n : N) → Contains list n → IsNamed u root (IsNear u root seeds) n ⊎ Contains packages n in
        standing_added (record {
          seen = λ t h. ⊎_elim (λ was. b.near.seen t was) (λ e. subst Near (sym e) (0, seed)) (only t h);
          read = subst Read (sym adds.read) b.near.read;
          asked = subst Asked (sym asked) b.near.asked;
        })

    -- one of the packages was asked
    pub standing_asked : (n : N) → Contains packages n → AsksOnly u n (notes_of old) (notes_in encoding) →
        IsStanding u root taken refused seeds packages (record old { encoding = encoding })
    standing_asked n own alone =
        let Near : List S → Type 0 = λ list. (t : S) → Contains list t → IsNear u root seeds t in
        let Own : N → Type 0 = λ m. Contains packages m in
        standing_added (record {
          seen = subst Near (sym alone.seen) b.near.seen;
          read = subst Near (sym adds.read) b.near.read;
          asked = λ m h. ⊎_elim (λ was. b.near.asked m was) (λ is. inr (subst Own (sym is) own)) (alone.asked.only m h);
        })

  -- the added clauses were loaded
  pub standing_loaded : (u : Universe N S) (root : Demands) (taken refused seeds : List S) (packages : List N) (old new : Rounds N S) →
      variable_count (trail_of old.search) ≤ length (notes_of old).origins → IsSearchOf old new → KeepsTurn old.search new.search →
      IsStanding u root taken refused seeds packages old → IsStanding u root taken refused seeds packages new
  standing_loaded u root taken refused seeds packages old new known same turn b =
      let Standing : Encoding N S → Chosen S → Type 0 = λ e c. IsStanding u root taken refused seeds packages (record new { encoding = e; chosen = c }) in
      let WithChosen : Chosen S → Type 0 = λ c. Standing new.encoding c in
      let WithEncoding : Encoding N S → Type 0 = λ e. Standing e old.chosen in
      let assumed = assumed_still (notes_of old).origins (notes_of old).origins (trail_of old.search) (trail_of new.search) taken refused
      (Keeps-same (notes_of old).origins) known turn.assumed.was b.assumed in
      subst WithChosen (sym same.chosen) (subst WithEncoding (sym same.encoding) (assumption))

  -- a turn may be counted from an earlier state with the same chosen, exempt and asked lists
  pub turned_from : (u : Universe N S) (root : Demands) (taken refused seeds : List S) (packages : List N) (s : S) (before old new : Rounds N S)
      (is_chosen : Bool) → chosen_of old ≡ chosen_of before → (notes_of old).exempt ≡ (notes_of before).exempt →
      (notes_of old).asked ≡ (notes_of before).asked →
      HasTurned u root taken refused seeds packages s old new is_chosen → HasTurned u root taken refused seeds packages s before new is_chosen
  turned_from u root taken refused seeds packages s before old new is_chosen chosen exempt asked h =
      let Turned : List S → List S → List N → Type 0 = λ c e a. IsTurned u root taken c e a s h.taken_now (chosen_of new) (notes_of new).exempt is_chosen in
      let WithChosen : List S → Type 0 = λ c. Turned c (notes_of old).exempt (notes_of old).asked in
      let WithExempt : List S → Type 0 = λ e. Turned (chosen_of before) e (notes_of old).asked in
      let WithAsked : List N → Type 0 = λ a. Turned (chosen_of before) (notes_of before).exempt a in
      let Asked : List N → Type 0 = λ a. IsWithin a (notes_of new).asked in
      search (subst WithAsked asked (subst WithExempt exempt (subst WithChosen chosen h.turned)), h.standing, subst Asked asked h.asked)

  -- a decided soft requirement is skipped
  pub skipped : (u : Universe N S) → HasLawfulSolvables u → (eq : N → N → Bool) → IsIdentity eq →
      (root : Demands) (taken refused seeds : List S) (packages : List N) (s : S) (v : ℕ) (slot : Slot) (r : Rounds N S) → AreRounds u r →
      variable_count (trail_of r.search) ≡ length (notes_of r).origins → IsStill r →
      slice_get (notes_of r).origins v ≡ Some (Solvable s) → slot_of (trail_of r.search) v ≡ Some slot → IsStanding u root taken refused seeds packages r →
      HasTurned u root taken refused seeds packages s r r slot.value
  skipped u lawful eq names root taken refused seeds packages s v slot r rounds size still origin at b =
      let encoding = b.read.half.encoding in
      let stays : (x : ℕ) (other : Slot) (n : ℕ) (t : S) → slot_of (trail_of r.search) x ≡ Some other → other.reason ≡ Decided n → other.level ≤ slot.level →
      other.value ≡ true → slice_get (notes_of r).origins x ≡ Some (Solvable t) → Contains (chosen_of r) t =
      λ x other n t is reason low on stands. let Chosen : List S → Type 0 = λ list. Contains list t in
      subst Chosen (sym still.chosen)
      (slot_chosen (notes_of r).origins (trail_of r.search) size x other t is (get_or_from_slice_get (notes_of r).origins x (Solvable t) Root stands) on)
      in
      let left : slot.value ≡ false → IsLeftOut (notes_of r).origins (notes_of r).table (chosen_of r) s = λ off. record {
        variable = v;
        stands = origin;
        never = λ values holds are. trail_agrees u root (notes_of r) encoding r.search rounds.consistent rounds.loaded
            (chosen_of r) taken refused rounds.variables b.assumed b.left_out values holds are slot.level
            (λ t h x is. are x t (b.seeded.seed_chosen t h) is) stays v slot at (omega arith) ∙ off;
      } in
      let Turned : Bool → Type 0 = λ on. IsTurned u root taken (chosen_of r) (notes_of r).exempt (notes_of r).asked s taken (chosen_of r)
      (notes_of r).exempt on in
      let Has : List S → Type 0 = λ list. Contains list s in
      let turned : Turned slot.value = ⊎_elim
      (λ (on : slot.value ≡ true). subst Turned (sym on)
      (was_chosen (subst Has (sym still.chosen)
      (slot_chosen (notes_of r).origins (trail_of r.search) size v slot s at (get_or_from_slice_get (notes_of r).origins v (Solvable s) Root origin) on))))
      (λ (off : slot.value ≡ false).
      let never : Contains (chosen_of r) s → ⊥ =
      λ h. unchosen (notes_of r).origins (trail_of r.search) encoding.distinct size v s origin (λ other is on.
      false≢true (sym off ∙ ap (λ (q : Slot). q.value) (same_Some _ _ (sym at ∙ is)) ∙ on)) (subst Has still.chosen h) in
      subst Turned (sym off) (⊎_elim
      (λ was. is_refused never (asked_before was)
      (left_out_nowhere u root (notes_of r) encoding lawful (chosen_of r) (notes_of r).exempt s
      (spares_present u (notes_of r).asked (notes_of r).exempt (notes_of r).kinds encoding.due) (left off)))
      (λ not. is_refused never (not_asked not)
      (left_out_nowhere u root (notes_of r) encoding lawful (chosen_of r) ((notes_of r).exempt ++ s ∷ []) s
      (spares_exempting u (notes_of r).asked (notes_of r).exempt s ((notes_of r).exempt ++ s ∷ []) (notes_of r).kinds encoding.due (not_asked not))
      (left off)))
      (in_or_not eq names (notes_of r).asked (u.name s))))
      (cases_Bool slot.value)
      in
      record { taken_now = taken; refused_now = refused; turned = turned; standing = b; asked = λ n h. h }

  -- the solvables that are chosen after a turn was undone were chosen before it
  pub refused_within : (u : Universe N S) (old : Rounds N S) (cut new : Trail) (v : ℕ) (chosen : List S) → AreRounds u old → 0 < base_of old.search →
      IsCut (trail_of old.search) cut (held_of old.search - 1) →
      Gains cut new (record { variable = v; positive = false }) (level_of cut + 1) Assumed → slot_of cut v ≡ None →
      chosen ≡ solvables_before (notes_of old).origins new (length_of new) → IsWithin chosen (chosen_of old)
  refused_within u old cut new v chosen rounds base is_cut gains free is t h =
      let origins : List (Origin N S) = (notes_of old).origins in
      let n : ℕ = held_of old.search - 1 in
      let some : 0 < held_of old.search = rounds.consistent.turn.some base in
      let bookmark : HasBookmark old = rounds.bookmark in
      let bookmarked : n ≤ kept_of old.search = omega (arith, rounds.consistent.turn.bookmarked, some) in
      let made : Slot = record { value = false; level = level_of cut + 1; place = length_of cut; reason = Assumed } in
      let stands_last : variable_at new n ≡ v = ap (variable_at new) (sym is_cut.length) ∙ (new.listed v made gains.here).1 in
      let off : value_of new v ≡ false = ap (λ o. option_map_or (λ (q : Slot). q.value) o false) gains.here in
      let size : length_of new ≡ suc n = omega (arith, gains.count, is_cut.length) in
      let nothing : [] ≡ solvable_if (origin_at origins (variable_at new n)) (value_of new (variable_at new n)) =
      none_at (origin_at origins (variable_at new n)) (value_of new (variable_at new n)) (ap (value_of new) stands_last ∙ off) in
      let cut_kept : KeepsPlaces (trail_of old.search) cut n =
      keeps_places (trail_of old.search) cut n (omega (arith, rounds.consistent.turn.inside)) (λ x slot at below. is_cut.kept x slot at below) in
      let all_kept : KeepsPlaces (trail_of old.search) new n =
      keeps_through (trail_of old.search) cut new n (length_of cut) cut_kept
      (keeps_all cut new (keeps-gains cut new (record { variable = v; positive = false }) (level_of cut + 1) Assumed gains free))
      (omega (arith, is_cut.length)) in
      let first : solvables_before origins new n ≡ solvables_before origins (trail_of old.search) n =
      same_before origins origins (trail_of old.search) new n (Keeps-same origins) rounds.variables all_kept n (omega arith) in
      let again : solvables_before origins (trail_of old.search) n ≡ solvables_before origins bookmark.base n =
      same_before origins origins bookmark.base (trail_of old.search) (kept_of old.search) (Keeps-same origins) bookmark.known bookmark.kept n bookmarked in
      let Has : List S → Type 0 = λ list. Contains list t in
      let there_before : Contains (solvables_before origins bookmark.base n) t =
      subst Has (is ∙ ap (solvables_before origins new) size ∙ ap (λ list. solvables_before origins new n ++ list) (sym nothing) ∙
      append-nil (solvables_before origins new n) ∙ first ∙ again) h in
      subst Has (sym bookmark.follows.is)
      (Extends-within (solvables_before origins bookmark.base n) (solvables_before origins bookmark.base (length_of bookmark.base))
      (before_extends origins bookmark.base n (length_of bookmark.base) (omega (arith, bookmarked, bookmark.kept.were))) t there_before)

  -- a list that follows the trail again, without new elements
  pub rounds_followed : (u : Universe N S) (before old new : Rounds N S) (from : ℕ) → AreRounds u before → old.encoding ≡ before.encoding →
      IsFollowingFrom old new from → IsWithin (chosen_of new) (chosen_of before) → AreRounds u new
  rounds_followed u before old new from rounds same following within =
      let encoding : before.encoding ≡ new.encoding = sym (following.encoding ∙ same) in
      let Read : Encoding N S → Type 0 = λ e. IsReadSoFar u rounds.reading.root (chosen_of new) (notes_in e) in
      let Known : Encoding N S → Type 0 = λ e. IsTrueCache u (cache_in e) in
      record {
        answers = subst Known encoding rounds.answers;
        reading = record {
          root = rounds.reading.root;
          so_far = subst Read encoding (so_far_less u rounds.reading.root (chosen_of new) (chosen_of before)
              (notes_of before) within rounds.reading.so_far);
        };
        consistent = following.consistent;
        loaded = record {
          given = (notes_of new).table;
          numbers = requirement_numbers (notes_of new).kinds;
          loaded = following.loaded.loaded;
          clauses = Extends-same (notes_of new).table;
          requiring = Extends-same (requirement_numbers (notes_of new).kinds);
        };
        variables = omega (arith, following.loaded.variables);
        bookmark = following.bookmark;
      }

  -- the turn of a soft requirement that is not decided: it may be exempt, and is assumed
  module _ (u : Universe N S) (root : Demands) (taken refused seeds : List S) (packages : List N) (s : S) (v : ℕ) (old : Rounds N S) (encoding : Encoding N S)
      (search : ClauseSearch)
      (known : variable_count (trail_of old.search) ≡ length (notes_of old).origins) (distinct : AreDistinct (notes_of old).origins) (still : IsStill old)
      (origin : slice_get (notes_of old).origins v ≡ Some (Solvable s)) (free : slot_of (trail_of old.search) v ≡ None) (seen : Contains (notes_of old).seen s)
      (seed : Contains seeds s)
      (only : notes_in encoding ≡ record (notes_of old) { exempt = (notes_in encoding).exempt })
      (exempts : (Contains (notes_of old).exempt s → ⊥) → Exempts u (notes_of old).asked (notes_of old).exempt s (notes_in encoding).exempt)
      (stays : (d : Demands) (set : List S) → IsReadSoFar u d set (notes_of old) → IsReadSoFar u d set (notes_in encoding))
      (gains : Gains (trail_of old.search) (trail_of search) (record { variable = v; positive = true }) (level_of (trail_of old.search) + 1) Assumed)
      (held : held_of search ≡ length_of (trail_of search)) (b : IsStanding u root taken refused seeds packages old) where
    abbrev t0 : Trail
    t0 = trail_of old.search

    abbrev n0 : ℕ
    n0 = length_of t0

    abbrev begun : Rounds N S
    begun = record old { encoding = encoding; search = search }

    same_origins : (notes_in encoding).origins ≡ (notes_of old).origins
    same_origins = ap (λ (n : Notes N S). n.origins) only

    keeps_begun : Keeps (notes_of old).origins (notes_in encoding).origins
    keeps_begun = let Kept : List (Origin N S) → Type 0 = λ os. Keeps (notes_of old).origins os in
        subst Kept (sym same_origins) (Keeps-same (notes_of old).origins)

    begun_known : variable_count (trail_of search) ≤ length (notes_in encoding).origins
    begun_known = omega (arith, gains.size, known, ap length same_origins)

    first_places : KeepsPlaces t0 (trail_of search) n0
    first_places = keeps_all t0 (trail_of search)
        (keeps-gains t0 (trail_of search) (record { variable = v; positive = true }) (level_of t0 + 1) Assumed gains free)

    not_chosen : Contains (chosen_of old) s → ⊥
    not_chosen h = let Has : List S → Type 0 = λ list. Contains list s in
        unchosen (notes_of old).origins t0 distinct known v s origin (λ slot at on. none-some _ (sym free ∙ at)) (subst Has still.chosen h)

    made_exempt : Exempts u (notes_of old).asked (notes_of old).exempt s (notes_in encoding).exempt
    made_exempt = exempts (λ h. not_chosen (b.seeded.seed_chosen s (b.exempt s h)))

    abbrev taken_now : List S
    taken_now = taken ++ s ∷ []

    begun_assumed : AreAssumed (notes_in encoding).origins taken_now refused (trail_of search)
    begun_assumed =
        let Kept : List (Origin N S) → Type 0 = λ os. AreAssumed os taken_now refused (trail_of search) in
        subst Kept (sym same_origins) (record {
          taken = λ x slot at reason value. ⊎_elim
              (λ made. (
                s,
                ap (origin_at (notes_of old).origins) made.0 ∙ get_or_from_slice_get (notes_of old).origins v (Solvable s) Root origin,
                last_in taken s,
              ))
              (λ was. let w = b.assumed.taken x slot was reason value in (w.0, w.1, earlier_in taken s w.0 w.2))
              (gains-cases t0 (trail_of search) (record { variable = v; positive = true }) (level_of t0 + 1) Assumed gains x slot at);
          left_out = λ x slot at reason value. ⊎_elim
              (λ made. absurd (false≢true (sym value ∙ ap (λ (q : Slot). q.value) made.1)))
              (λ was. b.assumed.left_out x slot was reason value)
              (gains-cases t0 (trail_of search) (record { variable = v; positive = true }) (level_of t0 + 1) Assumed gains x slot at);
        })

    begun_near : AreNear u root seeds packages (notes_in encoding)
    begun_near = let Near : Notes N S → Type 0 = λ n. AreNear u root seeds packages n in
        subst Near (sym only) (record { seen = b.near.seen; read = b.near.read; asked = b.near.asked })

    same_asked : (notes_in encoding).asked ≡ (notes_of old).asked
    same_asked = ap (λ (n : Notes N S). n.asked) only

    same_seen : (notes_in encoding).seen ≡ (notes_of old).seen
    same_seen = ap (λ (n : Notes N S). n.seen) only

    within_now : IsWithin taken_now seeds
    within_now t h = ⊎_elim (λ was. b.within t was) (λ e. let Has : S → Type 0 = λ x. Contains seeds x in subst Has e seed) (Contains-push_cases taken s t h)

    module _ (rest : Rounds N S) (goes : GoesOn u begun rest) where
      abbrev t2 : Trail
      t2 = trail_of rest.search

      abbrev o2 : List (Origin N S)
      o2 = (notes_of rest).origins

      places : KeepsPlaces (trail_of search) t2 (held_of search)
      places = let Held : ℕ → Type 0 = λ n. KeepsPlaces (trail_of search) t2 n in
          subst Held goes.turn.held (goes.turn.places (trail_of search) (keeps_itself (trail_of search) (held_of search) (omega (arith, held))))

      keeps_rest : Keeps (notes_of old).origins o2
      keeps_rest = Keeps-trans (notes_of old).origins (notes_in encoding).origins o2 keeps_begun goes.origins

      origin_rest : origin_at o2 v ≡ Solvable s
      origin_rest = get_or_from_slice_get o2 v (Solvable s) Root (keeps_rest.kept v (Solvable s) origin)

      first_rest : KeepsPlaces t0 t2 n0
      first_rest = keeps_through t0 (trail_of search) t2 n0 (held_of search) first_places places (omega (arith, held, gains.count))

      prefix : solvables_before o2 t2 n0 ≡ chosen_of old
      prefix = same_before (notes_of old).origins o2 t0 t2 n0 keeps_rest (omega (arith, known)) first_rest n0 (omega arith) ∙ sym still.chosen

      rest_read : IsReadSoFar u root (chosen_of rest) (notes_of rest)
      rest_read = goes.read root (stays root (chosen_of old) b.read)

      rest_near : AreNear u root seeds packages (notes_of rest)
      rest_near = goes.near root seeds taken_now refused packages (stays root (chosen_of old) b.read) within_now begun_assumed begun_near

      asked_rest : IsWithin (notes_of old).asked (notes_of rest).asked
      asked_rest n h = let Has : List N → Type 0 = λ list. Contains list n in goes.asked n (subst Has (sym same_asked) h)

      seen_rest : IsWithin (notes_of old).seen (notes_of rest).seen
      seen_rest t h = let Has : List S → Type 0 = λ list. Contains list t in goes.seen t (subst Has (sym same_seen) h)

      table_rest : Extends (notes_of old).table (notes_of rest).table
      table_rest = let From : List (List Literal) → Type 0 = λ table. Extends table (notes_of rest).table in
          subst From (ap (λ (n : Notes N S). n.table) only) goes.table

      -- the slot of the assumption
      abbrev assumed_slot : Slot
      assumed_slot = record { value = true; level = level_of t0 + 1; place = n0; reason = Assumed }

      made_rest : slot_of t2 v ≡ Some assumed_slot
      made_rest = places.slots v assumed_slot gains.here (omega (arith, held, gains.count))

      rest_assumed : AreAssumed o2 taken_now refused t2
      rest_assumed = assumed_still (notes_in encoding).origins o2
          (trail_of search) t2 taken_now refused goes.origins begun_known goes.turn.assumed.was begun_assumed

      left_rest : (larger : List S) → IsWithin (chosen_of old) larger → (t : S) → Contains refused t → IsLeftOut o2 (notes_of rest).table larger t
      left_rest larger within t h = left_out_more (notes_of old).origins o2 (notes_of old).table (notes_of rest).table
          (chosen_of old) larger t keeps_rest table_rest within (b.left_out t h)

      -- the soft requirement was accepted
      module _ (answering : IsAnswering u rest) where
        stays_chosen : IsWithin (chosen_of old) (chosen_of rest)
        stays_chosen t h =
            let Has : List S → Type 0 = λ list. Contains list t in
            subst Has (sym answering.chosen)
            (Extends-within (solvables_before o2 t2 n0) (solvables_before o2 t2 (length_of t2)) (before_extends o2 t2 n0 (length_of t2) first_rest.are) t
            (subst Has (sym prefix) h))

        now_chosen : Contains (chosen_of rest) s
        now_chosen =
            let Has : List S → Type 0 = λ list. Contains list s in
            subst Has (sym answering.chosen) (slot_chosen o2 t2 answering.variables v assumed_slot s made_rest origin_rest refl)

        rest_exempts : Exempts u (notes_of old).asked (notes_of old).exempt s (notes_of rest).exempt
        rest_exempts = let Made : List S → Type 0 = λ e. Exempts u (notes_of old).asked (notes_of old).exempt s e in subst Made (sym goes.exempt) made_exempt

        more_exempt : (e : List S) → Exempts u (notes_of old).asked (notes_of old).exempt s e → IsWithin (notes_of old).exempt e
        more_exempt e (asked_before was) = λ t h. h
        more_exempt e (not_asked not) = λ t h. earlier_in (notes_of old).exempt s t h

        few_exempt : (e : List S) → Exempts u (notes_of old).asked (notes_of old).exempt s e → IsWithin e taken_now
        few_exempt e (asked_before was) = λ t h. earlier_in taken s t (b.exempt t h)
        few_exempt e (not_asked not) =
            λ t h. ⊎_elim (λ was. earlier_in taken s t (b.exempt t was)) (λ same.
            let Has : S → Type 0 = λ x. Contains taken_now x in subst Has same (last_in taken s)) (Contains-push_cases (notes_of old).exempt s t h)

        freed : (e : List S) → Exempts u (notes_of old).asked (notes_of old).exempt s e → Contains e s ⊎ Contains (notes_of old).asked (u.name s)
        freed e (asked_before was) = inr was
        freed e (not_asked not) = inl (last_in (notes_of old).exempt s)

        now_seeded : AreSeeds u taken_now (chosen_of rest) (notes_of rest).asked (notes_of rest).seen (notes_of rest).exempt
        now_seeded = record {
          seed_chosen = λ t h. ⊎_elim (λ was. stays_chosen t (b.seeded.seed_chosen t was)) (λ e.
              let Has : S → Type 0 = λ x. Contains (chosen_of rest) x in subst Has e now_chosen) (Contains-push_cases taken s t h);
          seed_registered = λ t h. ⊎_elim (λ was. seen_rest t (b.seeded.seed_registered t was)) (λ e.
              let Has : S → Type 0 = λ x. Contains (notes_of rest).seen x in subst Has e (seen_rest s seen)) (Contains-push_cases taken s t h);
          seed_free = λ t h. ⊎_elim
              (λ was. ⊎_elim (λ free_before. inl (more_exempt (notes_of rest).exempt rest_exempts t free_before)) (λ asked. inr (asked_rest (u.name t) asked))
              (b.seeded.seed_free t was))
              (λ e. let Free : S → Type 0 = λ x. Contains (notes_of rest).exempt x ⊎ Contains (notes_of rest).asked (u.name x) in
              subst Free e (⊎_elim (λ is. inl is) (λ asked. inr (asked_rest (u.name s) asked)) (freed (notes_of rest).exempt rest_exempts)))
              (Contains-push_cases taken s t h);
        }

        pub accepted : HasTurned u root taken refused seeds packages s old rest true
        accepted =
            let answer = answering.answer root taken_now refused rest_read rest_assumed now_seeded in
            record {
              taken_now = taken_now;
              refused_now = refused;
              turned = is_accepted not_chosen rest_exempts stays_chosen now_chosen answer.valid answer.reached;
              standing = record {
                read = rest_read;
                once = answering.once;
                assumed = rest_assumed;
                left_out = left_rest (chosen_of rest) stays_chosen;
                seeded = now_seeded;
                within = within_now;
                exempt = few_exempt (notes_of rest).exempt rest_exempts;
                near = rest_near;
              };
              asked = asked_rest;
            }

      -- the soft requirement was refused
      module _ (lawful : HasLawfulSolvables u) (base : base_of search ≡ level_of t0 + 1) (unanswered : IsUnanswered rest) (count : ℕ)
          (counted : count ≡ length (notes_of old).exempt) (rounds : AreRounds u rest) (after : Rounds N S) (refusing : IsRefusing u v count rest after)
          (quiet : IsStill after) where
        abbrev t3 : Trail
        t3 = trail_of after.search

        abbrev o3 : List (Origin N S)
        o3 = (notes_of after).origins

        held_rest : held_of rest.search ≡ n0 + 1
        held_rest = omega (arith, goes.turn.held, held, gains.count)

        size_cut : length_of refusing.cut ≡ n0
        size_cut = omega (arith, refusing.is_cut.length, held_rest)

        loaded_places : KeepsPlaces t0 (trail_of refusing.loaded) n0
        loaded_places =
            let all : KeepsPlaces (trail_of search) (trail_of refusing.loaded) (held_of search) = let Held : ℕ → Type 0 =
            λ n. KeepsPlaces (trail_of search) t2 n in
            let Later : ℕ → Type 0 = λ n. KeepsPlaces (trail_of search) (trail_of refusing.loaded) n in
            subst Later (refusing.turn.held ∙ goes.turn.held) (refusing.turn.places (trail_of search) (subst Held (sym goes.turn.held) places)) in
            keeps_through t0 (trail_of search) (trail_of refusing.loaded) n0 (held_of search) first_places all (omega (arith, held, gains.count))

        cut_places : KeepsPlaces (trail_of refusing.loaded) refusing.cut n0
        cut_places = keeps_places (trail_of refusing.loaded) refusing.cut n0 loaded_places.are (λ x slot at below.
            refusing.is_cut.kept x slot at (omega (arith, below, held_rest)))

        last_places : KeepsPlaces t0 t3 n0
        last_places = keeps_through t0 refusing.cut t3 n0 (length_of refusing.cut)
            (keeps_through t0 (trail_of refusing.loaded) refusing.cut n0 n0 loaded_places cut_places (omega arith))
            (keeps_all refusing.cut t3 (keeps-gains refusing.cut t3 (record { variable = v; positive = false })
            (level_of refusing.cut + 1) Assumed refusing.gains refusing.free))
            (omega (arith, size_cut))

        keeps_after : Keeps (notes_of old).origins o3
        keeps_after = Keeps-trans (notes_of old).origins o2 o3 keeps_rest refusing.ended.adds.origins

        same_chosen : chosen_of after ≡ chosen_of old
        same_chosen =
            let made : Slot = record { value = false; level = level_of refusing.cut + 1; place = length_of refusing.cut; reason = Assumed } in
            let stands_last : variable_at t3 n0 ≡ v = ap (variable_at t3) (sym size_cut) ∙ (t3.listed v made refusing.gains.here).1 in
            let off : value_of t3 v ≡ false = ap (λ o. option_map_or (λ (q : Slot). q.value) o false) refusing.gains.here in
            let size : length_of t3 ≡ suc n0 = omega (arith, refusing.gains.count, size_cut) in
            let nothing : [] ≡ solvable_if (origin_at o3 (variable_at t3 n0)) (value_of t3 (variable_at t3 n0)) =
            none_at (origin_at o3 (variable_at t3 n0)) (value_of t3 (variable_at t3 n0)) (ap (value_of t3) stands_last ∙ off) in
            let first : solvables_before o3 t3 n0 ≡ chosen_of old =
            same_before (notes_of old).origins o3 t0 t3 n0 keeps_after (omega (arith, known)) last_places n0 (omega arith) ∙ sym still.chosen in
            quiet.chosen ∙ ap (solvables_before o3 t3) size ∙ ap (λ list. solvables_before o3 t3 n0 ++ list) (sym nothing) ∙
            append-nil (solvables_before o3 t3 n0) ∙ first

        old_within : IsWithin (chosen_of old) (chosen_of rest)
        old_within t h =
            let bookmark : HasBookmark rest = rounds.bookmark in
            let bookmarked : n0 ≤ kept_of rest.search = omega (arith, rounds.consistent.turn.bookmarked, held_rest) in
            let Has : List S → Type 0 = λ list. Contains list t in
            let same : solvables_before o2 t2 n0 ≡ solvables_before o2 bookmark.base n0 =
            same_before o2 o2 bookmark.base t2 (kept_of rest.search) (Keeps-same o2) bookmark.known bookmark.kept n0 bookmarked in
            subst Has (sym bookmark.follows.is)
            (Extends-within (solvables_before o2 bookmark.base n0) (solvables_before o2 bookmark.base (length_of bookmark.base))
            (before_extends o2 bookmark.base n0 (length_of bookmark.base) (omega (arith, bookmarked, bookmark.kept.were))) t (subst Has (sym prefix ∙ same) h))

        after_assumed : AreAssumed o3 taken (refused ++ s ∷ []) t3
        after_assumed =
            let origin_after : (x : ℕ) (slot : Slot) → slot_of t0 x ≡ Some slot → origin_at o3 x ≡ origin_at (notes_of old).origins x = λ x slot at.
            let inside : x < variable_count t0 = slot-within _ x slot.place (ap (option_map (λ (q : Slot). q.place)) at) in
            same_origin (notes_of old).origins o3 t0 t0 0 keeps_after (omega (arith, known)) (keeps_itself t0 0 (omega arith)) x (omega (arith, inside, known))
            in
            let back : (x : ℕ) (slot : Slot) → slot_of refusing.cut x ≡ Some slot → slot.reason ≡ Assumed → slot_of t0 x ≡ Some slot = λ x slot at reason.
            let before : slot_of (trail_of search) x ≡ Some slot =
            goes.turn.assumed.was x slot (refusing.turn.assumed.was x slot (refusing.is_cut.stays x slot at) reason) reason in
            ⊎_elim
            (λ made. absurd (none-some _ (sym refusing.free ∙ ap (slot_of refusing.cut) (sym made.0) ∙ at)))
            (λ was. was)
            (gains-cases t0 (trail_of search) (record { variable = v; positive = true }) (level_of t0 + 1) Assumed gains x slot before)
            in
            record {
              taken = λ x slot at reason value. ⊎_elim
                  (λ made. absurd (false≢true (sym (ap (λ (q : Slot). q.value) made.1) ∙ value)))
                  (λ was. let w = b.assumed.taken x slot (back x slot was reason) reason value in
                  (w.0, origin_after x slot (back x slot was reason) ∙ w.1, w.2))
                  (gains-cases refusing.cut t3 (record { variable = v; positive = false }) (level_of refusing.cut + 1) Assumed refusing.gains x slot at);
              left_out = λ x slot at reason value. ⊎_elim
                  (λ made. (
                    s,
                    ap (origin_at o3) made.0 ∙ get_or_from_slice_get o3 v (Solvable s) Root (keeps_after.kept v (Solvable s) origin),
                    last_in refused s,
                  ))
                  (λ was. let w = b.assumed.left_out x slot (back x slot was reason) reason value in
                  (w.0, origin_after x slot (back x slot was reason) ∙ w.1, earlier_in refused s w.0 w.2))
                  (gains-cases refusing.cut t3 (record { variable = v; positive = false }) (level_of refusing.cut + 1) Assumed refusing.gains x slot at);
            }

        exempt_cases : (e : List S) → Exempts u (notes_of old).asked (notes_of old).exempt s e → (e ≡ (notes_of old).exempt) ⊎
            (e ≡ (notes_of old).exempt ++ s ∷ [])
        exempt_cases e (asked_before was) = inl refl
        exempt_cases e (not_asked not) = inr refl

        exempt_after : (notes_of after).exempt ≡ (notes_of old).exempt
        exempt_after =
            let before : List S = (notes_of old).exempt in
            refusing.exempt ∙ ap (λ n. take n (notes_of rest).exempt) counted ∙ ap (take (length before)) goes.exempt ∙
            ⊎_elim
            (λ (e : (notes_in encoding).exempt ≡ before). ap (take (length before)) (e ∙ sym (append-nil before)) ∙ take-append_seam before [])
            (λ (e : (notes_in encoding).exempt ≡ before ++ s ∷ []). ap (take (length before)) e ∙ take-append_seam before (s ∷ []))
            (exempt_cases (notes_in encoding).exempt made_exempt)

        asked_after : IsWithin (notes_of old).asked (notes_of after).asked
        asked_after n h = let Has : List N → Type 0 = λ list. Contains list n in subst Has (sym refusing.ended.asked) (asked_rest n h)

        near_same : AreNear u root seeds packages (notes_of after)
        near_same =
            let Read : List S → Type 0 = λ list. (t : S) → Contains list t → IsNear u root seeds t in
            let Asked : List N → Type 0 = λ list. (n : N) → Contains list n → IsNamed u root (IsNear u root seeds) n ⊎ Contains packages n in
            record {
              seen = subst Read (sym refusing.ended.seen) rest_near.seen;
              read = subst Read (sym refusing.ended.adds.read) rest_near.read;
              asked = subst Asked (sym refusing.ended.asked) rest_near.asked;
            }

        -- the decisions at levels up to the assumption's were made before it
        decided_before : (x : ℕ) (slot : Slot) (n : ℕ) → slot_of t2 x ≡ Some slot → slot.reason ≡ Decided n → slot.level ≤ base_of rest.search → slot.place < n0
        decided_before x slot n at reason low = ⊎_elim
            (λ (after_it : n0 < slot.place).
            let above : level_of t0 + 1 < slot.level = (t2.rising v x assumed_slot slot made_rest at after_it).1 (ap is_decided reason) in
            omega (arith, above, low, goes.turn.base, base))
            (λ (not_after : slot.place ≤ n0). ⊎_elim
            (λ (here : slot.place ≡ n0).
            let named : x ≡ v = sym (t2.listed x slot at).1 ∙ ap (variable_at t2) here ∙ (t2.listed v assumed_slot made_rest).1 in
            let same : slot ≡ assumed_slot = same_Some _ _ (sym at ∙ ap (slot_of t2) named ∙ made_rest) in
            absurd (decided-assumed n (sym reason ∙ ap (λ (q : Slot). q.reason) same)))
            (λ (other : slot.place ≢ n0). omega (arith, not_after, other))
            (cases_eq slot.place n0))
            (cases_lt n0 slot.place)

        decided_chosen : (x : ℕ) (slot : Slot) (n : ℕ) (t : S) → slot_of t2 x ≡ Some slot → slot.reason ≡ Decided n → slot.level ≤ base_of rest.search →
            slot.value ≡ true → slice_get o2 x ≡ Some (Solvable t) → Contains (chosen_of old) t
        decided_chosen x slot n t at reason low on stands =
            let was : slot_of t0 x ≡ Some slot = keeps-back t0 t2 n0 x slot first_rest at (decided_before x slot n at reason low) in
            let inside : x < variable_count t0 = slot-within _ x slot.place (ap (option_map (λ (q : Slot). q.place)) was) in
            let origin_before : origin_at o2 x ≡ origin_at (notes_of old).origins x =
            same_origin (notes_of old).origins o2 t0 t0 0 keeps_rest (omega (arith, known)) (keeps_itself t0 0 (omega arith)) x
            (omega (arith, inside, known)) in
            let Chosen : List S → Type 0 = λ list. Contains list t in
            subst Chosen (sym still.chosen)
            (slot_chosen (notes_of old).origins t0 known x slot t was (sym origin_before ∙ get_or_from_slice_get o2 x (Solvable t) Root stands) on)

        out_rest : IsLeftOut o2 (notes_of rest).table (chosen_of old) s
        out_rest =
            let encoding_rest = rest_read.half.encoding in
            let stands_rest : slice_get o2 v ≡ Some (Solvable s) = keeps_rest.kept v (Solvable s) origin in
            record {
              variable = v;
              stands = stands_rest;
              never = λ values holds are. ⊎_elim
                  (λ (on : values v ≡ true).
                  let seeds_true : (t : S) → Contains taken_now t → (x : ℕ) → slice_get o2 x ≡ Some (Solvable t) → values x ≡ true = λ t h x is. ⊎_elim
                  (λ was. are x t (b.seeded.seed_chosen t was) is)
                  (λ e. let Stands : S → Type 0 = λ y. slice_get o2 v ≡ Some (Solvable y) in
                  ap values (encoding_rest.distinct.same x v (Solvable t) is (subst Stands e stands_rest)) ∙ on)
                  (Contains-push_cases taken s t h)
                  in
                  absurd (unanswered.none values holds
                  (trail_agrees u root (notes_of rest) encoding_rest rest.search rounds.consistent rounds.loaded
                  (chosen_of old) taken_now refused rounds.variables rest_assumed (left_rest (chosen_of old) (λ t h. h)) values holds are
                  (base_of rest.search) seeds_true decided_chosen)))
                  (λ (off : values v ≡ false). off)
                  (cases_Bool (values v));
            }

        fits_nowhere : FitsNowhere u root (chosen_of old) (notes_in encoding).exempt s
        fits_nowhere =
            let Spared : List S → Type 0 = λ e. Spares u e (notes_of rest).kinds in
            left_out_nowhere u root (notes_of rest) rest_read.half.encoding lawful (chosen_of old) (notes_in encoding).exempt s
            (subst Spared goes.exempt (spares_present u (notes_of rest).asked (notes_of rest).exempt (notes_of rest).kinds rest_read.half.encoding.due))
            out_rest

        left_after : (t : S) → Contains (refused ++ s ∷ []) t → IsLeftOut o3 (notes_of after).table (chosen_of old) t
        left_after t h =
            let Left : S → Type 0 = λ x. IsLeftOut o2 (notes_of rest).table (chosen_of old) x in
            left_out_more o2 o3 (notes_of rest).table (notes_of after).table (chosen_of old)
            (chosen_of old) t refusing.ended.adds.origins refusing.ended.adds.table (λ x k. k)
            (⊎_elim (λ was. left_rest (chosen_of old) (λ x k. k) t was) (λ e. subst Left e out_rest) (Contains-push_cases refused s t h))

        pub not_accepted : HasTurned u root taken refused seeds packages s old after false
        not_accepted =
            let read_after : IsReadSoFar u root (chosen_of old) (notes_of after) =
            so_far_less u root (chosen_of old) (chosen_of rest) (notes_of after) old_within (refusing.ended.adds.stays.so_far root (chosen_of rest) rest_read) in
            let Read : List S → Type 0 = λ list. IsReadSoFar u root list (notes_of after) in
            let Turned : List S → List S → Type 0 = λ c e. IsTurned u root taken (chosen_of old) (notes_of old).exempt (notes_of old).asked s taken c e false in
            let TurnedTo : List S → Type 0 = λ c. Turned c (notes_of after).exempt in
            let Seeded : List S → List S → Type 0 = λ c e. AreSeeds u taken c (notes_of after).asked (notes_of after).seen e in
            let SeededFor : List S → Type 0 = λ c. Seeded c (notes_of after).exempt in
            let Once : List S → Type 0 = λ list. HasNoRepeats list in
            let Exempt : List S → Type 0 = λ e. IsWithin e taken in
            let Left : List S → Type 0 = λ list. (t : S) → Contains (refused ++ s ∷ []) t → IsLeftOut o3 (notes_of after).table list t in
            record {
              taken_now = taken;
              refused_now = refused ++ s ∷ [];
              turned = subst TurnedTo (sym same_chosen) (subst (Turned (chosen_of old)) (sym exempt_after) (is_refused not_chosen made_exempt fits_nowhere));
              standing = record {
                read = subst Read (sym same_chosen) read_after;
                once = subst Once (sym same_chosen) b.once;
                assumed = after_assumed;
                left_out = subst Left (sym same_chosen) left_after;
                seeded = subst SeededFor (sym same_chosen) (subst (Seeded (chosen_of old)) (sym exempt_after) (record {
                  seed_chosen = b.seeded.seed_chosen;
                  seed_registered = λ t h. let Seen : List S → Type 0 = λ list. Contains list t in
                      subst Seen (sym refusing.ended.seen) (seen_rest t (b.seeded.seed_registered t h));
                  seed_free = λ t h. ⊎_elim (λ e. inl e) (λ asked. inr (asked_after (u.name t) asked)) (b.seeded.seed_free t h);
                }));
                within = b.within;
                exempt = subst Exempt (sym exempt_after) b.exempt;
                near = near_same;
              };
              asked = asked_after;
            }

  -- the rounds before a turn, when only the exemptions changed and a variable was assumed
  pub rounds_assumed : (u : Universe N S) (old : Rounds N S) (encoding : Encoding N S) (search : ClauseSearch) (v : ℕ) → AreRounds u old →
      notes_in encoding ≡ record (notes_of old) { exempt = (notes_in encoding).exempt } →
      ((d : Demands) (set : List S) → IsReadSoFar u d set (notes_of old) → IsReadSoFar u d set (notes_in encoding)) → IsConsistent search →
      KeepsLoaded old.search search → variable_count (trail_of search) ≡ variable_count (trail_of old.search) → KeepsBookmark old.search search →
      IsTrueCache u (cache_in encoding) → AreRounds u (record old { encoding = encoding; search = search })
  rounds_assumed u old encoding search v rounds only stays consistent loads size bookmark answers =
      let origins : (notes_of old).origins ≡ (notes_in encoding).origins = sym (ap (λ (n : Notes N S). n.origins) only) in
      let Follow : List (Origin N S) → Type 0 = λ os. Follows old.chosen os rounds.bookmark.base (length_of rounds.bookmark.base) in
      let Table : List (List Literal) → Type 0 = λ table. Extends rounds.loaded.given table in
      let Requiring : List ℕ → Type 0 = λ list. Extends rounds.loaded.numbers list in
      record {
        answers = answers;
        reading = record { root = rounds.reading.root; so_far = stays rounds.reading.root (chosen_of old) rounds.reading.so_far };
        consistent = consistent;
        loaded = record {
          given = rounds.loaded.given;
          numbers = rounds.loaded.numbers;
          loaded = loads rounds.loaded.given rounds.loaded.numbers rounds.loaded.loaded;
          clauses = subst Table (sym (ap (λ (n : Notes N S). n.table) only)) rounds.loaded.clauses;
          requiring = subst Requiring (sym (ap (λ (n : Notes N S). requirement_numbers n.kinds) only)) rounds.loaded.requiring;
        };
        variables = omega (arith, size, rounds.variables, ap length origins);
        bookmark = record {
          base = rounds.bookmark.base;
          follows = subst Follow origins rounds.bookmark.follows;
          kept = bookmark rounds.bookmark.base rounds.bookmark.kept;
          known = omega (arith, rounds.bookmark.known, ap length origins);
        };
      }

  -- the entries that are held from now on
  module _ (u : Universe N S) (old : Rounds N S) (search : ClauseSearch) (trail : trail_of search ≡ trail_of old.search)
      (count : kept_of search ≡ kept_of old.search) where
    rounds_held : AreRounds u old → IsConsistent search → KeepsLoaded old.search search → AreRounds u (record old { search = search })
    rounds_held rounds consistent loads =
        let Kept : Trail → ℕ → Type 0 = λ t n. KeepsPlaces rounds.bookmark.base t n in
        let KeptIn : Trail → Type 0 = λ t. Kept t (kept_of search) in
        let loaded = loads rounds.loaded.given rounds.loaded.numbers rounds.loaded.loaded in
        let variables : variable_count (trail_of search) ≤ length (notes_of old).origins = omega (arith, ap variable_count trail, rounds.variables) in
        let kept = subst KeptIn (sym trail) (subst (Kept (trail_of old.search)) (sym count) rounds.bookmark.kept) in
        Prim.search rounds.bookmark.follows

    pub rest_held : held_of search ≡ length_of (trail_of search) → AreRounds u old → IsConsistent search → KeepsLoaded old.search search →
        IsAnswering u old → AreAtRest u (record old { search = search })
    rest_held held rounds consistent loads answering = record {
      rounds = rounds_held rounds consistent loads;
      still = record {
        held = held;
        bookmarked = count ∙ answering.bookmarked ∙ ap length_of (sym trail);
        chosen = answering.chosen ∙ ap (λ (t : Trail). solvables_before (notes_of old).origins t (length_of t)) (sym trail);
      };
    }

    standing_held : (root : Demands) (taken refused seeds : List S) (packages : List N) → IsStanding u root taken refused seeds packages old →
        IsStanding u root taken refused seeds packages (record old { search = search })
    standing_held root taken refused seeds packages b =
        let Assuming : Trail → Type 0 = λ t. AreAssumed (notes_of old).origins taken refused t in
        assumption (subst Assuming (sym trail) b.assumed)

    pub between_held : (root : Demands) (done : List (SoftRequirement S)) → IsBetween u root done old → IsBetween u root done (record old { search = search })
    between_held root done b =
        Prim.search (b.promise, b.run, standing_held root b.taken b.refused (flat_map (options u) done) (flat_map (own_packages u) done) b.standing)

    pub turned_held : (root : Demands) (taken refused seeds : List S) (packages : List N) (s : S) (before : Rounds N S) (is_chosen : Bool) →
        HasTurned u root taken refused seeds packages s before old is_chosen →
        HasTurned u root taken refused seeds packages s before (record old { search = search }) is_chosen
    turned_held root taken refused seeds packages s before on h =
        Prim.search (h.turned, standing_held root h.taken_now h.refused_now seeds packages h.standing, h.asked)

-- the variable that was assumed
pub just_assumed : (old new : ClauseSearch) (v : ℕ) →
    Gains (trail_of old) (trail_of new) (record { variable = v; positive = true }) (level_of (trail_of old) + 1) Assumed →
    base_of new ≡ level_of (trail_of old) + 1 → held_of new ≡ length_of (trail_of new) → HasAssumed new v
just_assumed old new v gains base held =
    let made : Slot = record { value = true; level = level_of (trail_of old) + 1; place = length_of (trail_of old); reason = Assumed } in
    let place : held_of new - 1 ≡ length_of (trail_of old) = omega (arith, held, gains.count) in
    record { base = omega (arith, base); place = ap (variable_at (trail_of new)) place ∙ ((trail_of new).listed v made gains.here).1 }

-- nothing is assumed in the turn of the root
pub root_assumed : {N S : Type 0} (origins : List (Origin N S)) (it : ClauseSearch) → IsRootTurn it → AreAssumed origins [] [] (trail_of it)
root_assumed origins it turn = record {
  taken = λ v slot at reason value. absurd (turn.none v slot at reason);
  left_out = λ v slot at reason value. absurd (turn.none v slot at reason);
}

-- the turn of the root ended with an answer, and no soft requirement had its turn yet
pub between_begun : {N S : Type 0} (u : Universe N S) (root : Demands) (old rest : Rounds N S) → IsReadSoFar u root (chosen_of old) (notes_of old) →
    AreNear u root [] [] (notes_of old) → (notes_of old).exempt ≡ [] → IsRootTurn old.search → GoesOn u old rest → IsAnswering u rest → IsBetween u root [] rest
between_begun {N} {S} u root old rest read near exempt turn goes answering =
    let none_old : AreAssumed (notes_of old).origins [] [] (trail_of old.search) = root_assumed (notes_of old).origins old.search turn in
    let none : AreAssumed (notes_of rest).origins [] [] (trail_of rest.search) =
    record {
      taken = λ v slot at reason value. absurd (turn.none v slot (goes.turn.assumed.was v slot at reason) reason);
      left_out = λ v slot at reason value. absurd (turn.none v slot (goes.turn.assumed.was v slot at reason) reason);
    } in
    let seeded : AreSeeds u [] (chosen_of rest) (notes_of rest).asked (notes_of rest).seen (notes_of rest).exempt =
    record { seed_chosen = λ s h. absurd (none_in s h); seed_registered = λ s h. absurd (none_in s h); seed_free = λ s h. absurd (none_in s h) } in
    let now : IsReadSoFar u root (chosen_of rest) (notes_of rest) = goes.read root read in
    let close : AreNear u root [] [] (notes_of rest) = goes.near root [] [] [] [] read (λ s h. h) none_old near in
    let answer = answering.answer root [] [] now none seeded in
    let free : (notes_of rest).exempt ≡ [] = goes.exempt ∙ exempt in
    let Valid : List S → Type 0 = λ e. IsValid u root (chosen_of rest) e in
    let Run : List S → Type 0 = λ e. SoftRun u root (chosen_of rest) [] [] (chosen_of rest) e (notes_of rest).asked in
    let Within : List S → Type 0 = λ e. IsWithin e [] in
    record {
      first = chosen_of rest;
      promise = answering.promise root now none;
      taken = [];
      refused = [];
      run = subst Run (sym free) (start (subst Valid free answer.valid) answer.reached (asked_for u root (chosen_of rest) [] (notes_of rest) now close));
      standing = record {
        read = now;
        once = answering.once;
        assumed = none;
        left_out = λ s h. absurd (none_in s h);
        seeded = seeded;
        within = λ s h. h;
        exempt = subst Within (sym free) (λ s h. h);
        near = close;
      };
    }
