-- The run over the soft requirements goes on with one more turn.
use Rattle.std.proofs.Common.{◌≡◌, ◌⊎◌, Bool, true, false, List, [], ◌∷◌, ◌++◌, Contains, Option, Some, None, refl, sym, ap, ◌∙◌}
use Rattle.std.proofs.Common.{subst, ⊎_elim}
use Rattle.std.specs.Iterator.{Drains, Yields}
use Rattle.std.specs.List.{filter, flat_map, list_any}
use Rattle.std.specs.Prelude.{cond, not}
use Rattle.std.proofs.lemmas.Bool.{cases_Bool, true≢false}
use Rattle.std.proofs.lemmas.Grind.{flat_map-append}
use Rattle.std.proofs.lemmas.List.Elements.{Contains-append_left, Contains-append_right}
use Rattle.std.proofs.lemmas.List.Sorted.{Contains-permutation}
use Rattle.resolver_clause_store.specs.Candidates.{favored_first, matching, sorted_candidates}
use Rattle.resolver_clause_store.specs.Laws.{HasLawfulPackages, IsIdentity}
use Rattle.resolver_clause_store.specs.Lists.{IsWithin, Meets, moved_to_front}
use Rattle.resolver_clause_store.specs.SoftRun.{Exempts, FitsNowhere, IsAsked, SoftRun, accepted, asked_before, chosen_before, not_asked, options, own_packages}
use Rattle.resolver_clause_store.specs.SoftRun.{refused}
use Rattle.resolver_clause_store.specs.Universe.{Universe, Demands}
use Rattle.resolver_clause_store.specs.Valid.{IsValid}
use Rattle.resolver_clause_store.specs.declared.Cache.{Cache}
use Rattle.resolver_clause_store.specs.declared.SoftRequirement.{SoftRequirement}
use Rattle.resolver_clause_store.specs.declared.SoftRequirement.TheVariants.{Matching, Solvable}
use Rattle.resolver_clause_store.specs.declared.VersionSetId.{VersionSetId}
use Rattle.resolver_encoding.proofs.ReachLemmas.{AreNear-more}
use Rattle.resolvo.specs.RoundStates.{HasTurned, HaveTurned, IsBetween, IsOneTaken, IsStanding, IsTurned, chosen_of, is_accepted, is_refused, none_fits}
use Rattle.resolvo.specs.RoundStates.{notes_of, one_fits, was_chosen}
use Rattle.resolvo.specs.declared.rounds.Rounds.{Rounds}
use Rattle.resolver_clause_store.proofs.ListLemmas.{Contains-cons_cases as cons_cases, Contains-here as here, Contains-none as none_in, Contains-there as there}
use Rattle.resolvo.proofs.RoundLemmas.{knowing}
use Rattle.resolvo.proofs.SoftLemmas.{asked_for}

-- the element is all of the list
one_within : {X : Type 0} (x : X) (xs : List X) → Contains xs x → IsWithin (x ∷ []) xs
one_within {X} x xs inside y h =
    let Has : X → Type 0 = λ z. Contains xs z in
    ⊎_elim (λ (is : x ≡ y). subst Has is inside) (λ (none : Contains [] y). absurd (none_in y none)) (cons_cases x [] y h)

-- a gathered list with the elements of one more part
gathered : {X A : Type 0} (f : X → List A) (xs : List X) (x : X) → flat_map f (xs ++ x ∷ []) ≡ flat_map f xs ++ (f x ++ [])
gathered f xs x = flat_map-append f xs (x ∷ [])

pub gathered_before : {X A : Type 0} (f : X → List A) (xs : List X) (x : X) → IsWithin (flat_map f xs) (flat_map f (xs ++ x ∷ []))
gathered_before {X} {A} f xs x a h =
    let Has : List A → Type 0 = λ list. Contains list a in
    subst Has (sym (gathered f xs x)) (Contains-append_left (flat_map f xs) (f x ++ []) a h)

pub gathered_last : {X A : Type 0} (f : X → List A) (xs : List X) (x : X) → IsWithin (f x) (flat_map f (xs ++ x ∷ []))
gathered_last {X} {A} f xs x a h =
    let Has : List A → Type 0 = λ list. Contains list a in
    subst Has (sym (gathered f xs x)) (Contains-append_right (flat_map f xs) (f x ++ []) a (Contains-append_left (f x) [] a h))

-- a list of one element
met_one : {X : Type 0} (x : X) (xs : List X) → Meets (x ∷ []) xs → Contains xs x
met_one {X} x xs m =
    let Has : X → Type 0 = λ y. Contains xs y in
    ⊎_elim (λ (is : x ≡ m.shared). subst Has (sym is) m.in_second) (λ (none : Contains [] m.shared). absurd (none_in m.shared none))
    (cons_cases x [] m.shared m.in_first)

-- an element that passes the filter
taken_by : {X : Type 0} (p : X → Bool) (xs : List X) (x : X) → Contains xs x → p x ≡ true → Contains (filter p xs) x
taken_by p [] x h on = absurd (none_in x h)
taken_by {X} p (y ∷ ys) x h on =
    let Has : Bool → Type 0 = λ b. Contains (cond b (y ∷ filter p ys) (filter p ys)) x in
    ⊎_elim
    (λ (is : y ≡ x). subst Has (sym (ap p is ∙ on)) (let Here : X → Type 0 = λ z. Contains (y ∷ filter p ys) z in subst Here is (here y (filter p ys))))
    (λ (later : Contains ys x). ⊎_elim
    (λ (e : p y ≡ true). subst Has (sym e) (there y (filter p ys) x (taken_by p ys x later on)))
    (λ (e : p y ≡ false). subst Has (sym e) (taken_by p ys x later on))
    (cases_Bool (p y)))
    (cons_cases y ys x h)

in_front : {X : Type 0} (same : X → X → Bool) → IsIdentity same → (y : X) (xs : List X) (x : X) → Contains xs x → Contains (moved_to_front same y xs) x
in_front {X} same identity y xs x h =
    let rest : List X = filter (λ z. not (same z y)) xs in
    let Has : Bool → Type 0 = λ b. Contains (cond b (y ∷ rest) xs) x in
    ⊎_elim
    (λ (e : list_any (λ z. same z y) xs ≡ true). subst Has (sym e) (⊎_elim
    (λ (is : same x y ≡ true). let Here : X → Type 0 = λ z. Contains (y ∷ rest) z in subst Here (sym (identity.alone x y is)) (here y rest))
    (λ (other : same x y ≡ false). there y rest x (taken_by (λ z. not (same z y)) xs x h (ap not other)))
    (cases_Bool (same x y))))
    (λ (e : list_any (λ z. same z y) xs ≡ false). subst Has (sym e) h)
    (cases_Bool (list_any (λ z. same z y) xs))

module _ {N S : Type 0} (u : Universe N S) where
  -- a candidate that matches a version set is among its sorted candidates
  favored_kept : IsIdentity u.same_solvable → (o : Option S) (xs : List S) (s : S) → Contains xs s → Contains (favored_first u o xs) s
  favored_kept identity None xs s h = h
  favored_kept identity (Some f) xs s h = in_front u.same_solvable identity f xs s h

  pub sorted_has : IsIdentity u.same_solvable → HasLawfulPackages u → (v : VersionSetId) (s : S) → Contains (matching u v) s →
      Contains (sorted_candidates u v) s
  sorted_has identity packages v s h = favored_kept identity (u.package_named (u.version_set_name v)).favored (u.sorted_of (matching u v)) s
      (Contains-permutation (matching u v) (u.sorted_of (matching u v)) s (packages.sort_permutes (matching u v)) h)

  module _ (root : Demands) where
    -- more seeds, and more packages
    pub standing_wider : (taken refused seeds more : List S) (packages others : List N) (r : Rounds N S) → IsWithin seeds more → IsWithin packages others →
        IsStanding u root taken refused seeds packages r → IsStanding u root taken refused more others r
    standing_wider taken left seeds more packages others r wider besides b =
        let within : IsWithin taken more = λ s h. wider s (b.within s h) in
        assumption (AreNear-more u root seeds packages more others wider besides (notes_of r) b.near)

    pub standing_for : (done : List (SoftRequirement S)) (r : SoftRequirement S) (taken refused : List S) (rounds : Rounds N S) →
        IsStanding u root taken refused (flat_map (options u) done) (flat_map (own_packages u) done) rounds →
        IsStanding u root taken refused (flat_map (options u) (done ++ r ∷ [])) (flat_map (own_packages u) (done ++ r ∷ [])) rounds
    standing_for done r taken left rounds b =
        standing_wider taken left (flat_map (options u) done) (flat_map (options u) (done ++ r ∷ [])) (flat_map (own_packages u) done)
        (flat_map (own_packages u) (done ++ r ∷ [])) rounds
        (gathered_before (options u) done r) (gathered_before (own_packages u) done r) b

    -- the cache may know more
    pub standing_known : (taken refused seeds : List S) (packages : List N) (r : Rounds N S) (cache : Cache N S) →
        IsStanding u root taken refused seeds packages r → IsStanding u root taken refused seeds packages (knowing r cache)
    standing_known taken left seeds packages r cache b = assumption

    pub between_known : (done : List (SoftRequirement S)) (r : Rounds N S) (cache : Cache N S) → IsBetween u root done r →
        IsBetween u root done (knowing r cache)
    between_known done r cache b =
        let standing = standing_known b.taken b.refused (flat_map (options u) done) (flat_map (own_packages u) done) r cache b.standing in
        record { first = b.first; promise = b.promise; taken = b.taken; refused = b.refused; run = b.run; standing = standing }

    -- the turn of a solvable
    run_turned : (first : List S) (done : List (SoftRequirement S)) (taken chosen exempt : List S) (asked : List N) (s : S)
        (taken_now chosen_now exempt_now : List S) (is_chosen : Bool) (asked_now : List N) →
        SoftRun u root first done taken chosen exempt asked → IsTurned u root taken chosen exempt asked s taken_now chosen_now exempt_now is_chosen →
        IsWithin asked asked_now → IsAsked u root chosen_now (done ++ Solvable s ∷ []) asked_now →
        SoftRun u root first (done ++ Solvable s ∷ []) taken_now chosen_now exempt_now asked_now
    run_turned first done taken chosen exempt asked s _ _ _ _ asked_now run (was_chosen inside) grows asks =
        chosen_before (Solvable s) run (record { shared = s; in_first = here s []; in_second = inside }) grows asks
    run_turned first done taken chosen exempt asked s _ _ _ _ asked_now run (is_accepted never exempts keeps inside valid reached) grows asks =
        accepted (Solvable s) run (λ m. never (met_one s chosen m)) exempts keeps (here s []) inside valid reached (λ n h. absurd (none_in n h)) grows asks
    run_turned first done taken chosen exempt asked s _ _ _ _ asked_now run (is_refused {exempt_now = e} never exempts fits) grows asks =
        let Fits : S → Type 0 = λ t. FitsNowhere u root chosen e t in
        refused (Solvable s) run (λ m. never (met_one s chosen m)) exempts (λ t h.
        ⊎_elim (λ (is : s ≡ t). subst Fits is fits) (λ (none : Contains [] t). absurd (none_in t none)) (cons_cases s [] t h)) (λ n h.
        absurd (none_in n h)) grows asks

    pub between_solvable : (done : List (SoftRequirement S)) (s : S) (old new : Rounds N S) (is_chosen : Bool) (b : IsBetween u root done old) →
        HasTurned u root b.taken b.refused (flat_map (options u) (done ++ Solvable s ∷ []))
        (flat_map (own_packages u) (done ++ Solvable s ∷ [])) s old new is_chosen → IsBetween u root (done ++ Solvable s ∷ []) new
    between_solvable done s old new is_chosen b h =
        let run = run_turned b.first done b.taken (chosen_of old) (notes_of old).exempt (notes_of old).asked s h.taken_now (chosen_of new)
        (notes_of new).exempt is_chosen (notes_of new).asked b.run h.turned h.asked
        (asked_for u root (chosen_of new) (done ++ Solvable s ∷ []) (notes_of new) h.standing.read h.standing.near) in
        search (b.promise, h.standing)

    -- the turn of a version set with a chosen candidate
    pub between_met : (done : List (SoftRequirement S)) (v : VersionSetId) (r : Rounds N S) → Meets (matching u v) (chosen_of r) → IsBetween u root done r →
        IsBetween u root (done ++ Matching v ∷ []) r
    between_met done v r meets b =
        let standing = standing_for done (Matching v) b.taken b.refused r b.standing in
        let run : SoftRun u root b.first (done ++ Matching v ∷ []) b.taken (chosen_of r) (notes_of r).exempt (notes_of r).asked =
        chosen_before (Matching v) b.run meets (λ n h. h)
        (asked_for u root (chosen_of r) (done ++ Matching v ∷ []) (notes_of r) standing.read standing.near) in
        search b.promise

    -- the turn of a version set without a chosen candidate
    run_tried : (first : List S) (done : List (SoftRequirement S)) (taken chosen exempt : List S) (asked : List N) (v : VersionSetId)
        (candidates taken_now chosen_now : List S) (is_chosen : Bool) (asked_now : List N) →
        SoftRun u root first done taken chosen exempt asked → (Meets (matching u v) chosen → ⊥) → IsWithin candidates (matching u v) →
        IsWithin (matching u v) candidates → IsOneTaken u root taken chosen exempt candidates taken_now chosen_now is_chosen →
        Contains asked_now (u.version_set_name v) → IsWithin asked asked_now → IsAsked u root chosen_now (done ++ Matching v ∷ []) asked_now →
        SoftRun u root first (done ++ Matching v ∷ []) taken_now chosen_now exempt asked_now
    run_tried first done taken chosen exempt asked v candidates _ _ _ asked_now run never match all
        (one_fits {s = s} listed keeps inside valid reached) own grows asks =
        accepted (Matching v) run never refl keeps (match s listed) inside valid reached (one_within (u.version_set_name v) asked_now own) grows asks
    run_tried first done taken chosen exempt asked v candidates _ _ _ asked_now run never match all (none_fits fits) own grows asks =
        refused (Matching v) run never refl (λ s h. fits s (all s h)) (one_within (u.version_set_name v) asked_now own) grows asks

    pub between_tried : (done : List (SoftRequirement S)) (v : VersionSetId) (candidates : List S) (old mid new : Rounds N S) (is_chosen : Bool)
        (b : IsBetween u root done old) → (Meets (matching u v) (chosen_of old) → ⊥) → IsWithin candidates (matching u v) → IsWithin (matching u v) candidates →
        chosen_of mid ≡ chosen_of old → (notes_of mid).exempt ≡ (notes_of old).exempt → IsWithin (notes_of old).asked (notes_of mid).asked →
        Contains (notes_of mid).asked (u.version_set_name v) →
        HaveTurned u root b.taken (flat_map (options u) (done ++ Matching v ∷ []))
        (flat_map (own_packages u) (done ++ Matching v ∷ [])) candidates mid new is_chosen → IsBetween u root (done ++ Matching v ∷ []) new
    between_tried done v candidates old mid new is_chosen b never match all chosen exempt grows own h =
        let Taken : List S → List S → Type 0 = λ c e. IsOneTaken u root b.taken c e candidates h.taken_now (chosen_of new) is_chosen in
        let WithChosen : List S → Type 0 = λ c. Taken c (notes_of mid).exempt in
        let WithExempt : List S → Type 0 = λ e. Taken (chosen_of old) e in
        let taken : Taken (chosen_of old) (notes_of old).exempt = subst WithExempt exempt (subst WithChosen chosen h.turned) in
        let Run : List S → Type 0 = λ e. SoftRun u root b.first (done ++ Matching v ∷ []) h.taken_now (chosen_of new) e (notes_of new).asked in
        let run = subst Run (sym (h.exempt ∙ exempt))
        (run_tried b.first done b.taken (chosen_of old) (notes_of old).exempt (notes_of old).asked v candidates h.taken_now (chosen_of new) is_chosen
        (notes_of new).asked b.run never match all taken
        (h.asked (u.version_set_name v) own) (λ n k. h.asked n (grows n k))
        (asked_for u root (chosen_of new) (done ++ Matching v ∷ []) (notes_of new) h.standing.read h.standing.near)) in
        search (b.promise, h.standing)

    -- no candidate was taken if none is chosen after the turn
    none_taken : (taken chosen exempt candidates taken_now chosen_now : List S) (is_chosen : Bool) →
        IsOneTaken u root taken chosen exempt candidates taken_now chosen_now is_chosen → is_chosen ≡ false →
        (taken_now ≡ taken) × (chosen_now ≡ chosen) × ((s : S) → Contains candidates s → FitsNowhere u root chosen exempt s)
    none_taken taken chosen exempt candidates _ _ _ (one_fits listed keeps inside valid reached) e = absurd (true≢false e)
    none_taken taken chosen exempt candidates _ _ _ (none_fits fits) e = (refl, refl, fits)

    still_exempt : (asked : List N) (exempt : List S) (s : S) (exempt_now : List S) → Contains asked (u.name s) → Exempts u asked exempt s exempt_now →
        exempt_now ≡ exempt
    still_exempt asked exempt s _ was (asked_before h) = refl
    still_exempt asked exempt s _ was (not_asked not) = absurd (not was)

    refused_one : (taken chosen exempt : List S) (asked : List N) (s : S) (taken_now chosen_now exempt_now : List S) (is_chosen : Bool) →
        IsTurned u root taken chosen exempt asked s taken_now chosen_now exempt_now is_chosen → is_chosen ≡ false → Contains asked (u.name s) →
        (taken_now ≡ taken) × (chosen_now ≡ chosen) × (exempt_now ≡ exempt) × FitsNowhere u root chosen exempt s
    refused_one taken chosen exempt asked s _ _ _ _ (was_chosen inside) e was = absurd (true≢false e)
    refused_one taken chosen exempt asked s _ _ _ _ (is_accepted never exempts keeps inside valid reached) e was = absurd (true≢false e)
    refused_one taken chosen exempt asked s _ _ _ _ (is_refused {exempt_now = now} never exempts fits) e was =
        let Fits : List S → Type 0 = λ list. FitsNowhere u root chosen list s in
        (refl, refl, refl, subst Fits (still_exempt asked exempt s now was exempts) fits)

    accepted_one : (taken chosen exempt : List S) (asked : List N) (s : S) (candidates taken_now chosen_now exempt_now : List S) (is_chosen : Bool) →
        IsTurned u root taken chosen exempt asked s taken_now chosen_now exempt_now is_chosen → is_chosen ≡ true → Contains asked (u.name s) →
        (Contains chosen s → ⊥) → Contains candidates s →
        IsOneTaken u root taken chosen exempt candidates taken_now chosen_now true × (exempt_now ≡ exempt)
    accepted_one taken chosen exempt asked s candidates _ _ _ _ (was_chosen inside) e was never listed = absurd (never inside)
    accepted_one taken chosen exempt asked s candidates _ _ _ _
        (is_accepted {chosen_now = c} {exempt_now = now} not exempts keeps inside valid reached) e was never listed =
        let Valid : List S → Type 0 = λ list. IsValid u root c list in
        let same : now ≡ exempt = still_exempt asked exempt s now was exempts in
        (one_fits listed keeps inside (subst Valid same valid) reached, same)
    accepted_one taken chosen exempt asked s candidates _ _ _ _ (is_refused never exempts fits) e was not listed = absurd (true≢false (sym e))

    module _ (taken seeds : List S) (packages : List N) (old : Rounds N S) where
      pub none_tried : (refused : List S) → IsStanding u root taken refused seeds packages old → HaveTurned u root taken seeds packages [] old old false
      none_tried left b = record {
        taken_now = taken;
        refused_now = left;
        turned = none_fits (λ s h. absurd (none_in s h));
        exempt = refl;
        standing = b;
        asked = λ n h. h;
      }

      -- one more candidate had its turn
      module _ (candidates : List S) (mid new : Rounds N S) (s : S) (h : HaveTurned u root taken seeds packages candidates old mid false)
          (asked : Contains (notes_of old).asked (u.name s)) where
        before : (h.taken_now ≡ taken) × (chosen_of mid ≡ chosen_of old) ×
            ((t : S) → Contains candidates t → FitsNowhere u root (chosen_of old) (notes_of old).exempt t)
        before = none_taken taken (chosen_of old) (notes_of old).exempt candidates h.taken_now (chosen_of mid) false h.turned refl

        pub tried_more : (more : List S) → ((t : S) → Contains more t → Contains candidates t ⊎ (s ≡ t)) →
            HasTurned u root h.taken_now h.refused_now seeds packages s mid new false → HaveTurned u root taken seeds packages more old new false
        tried_more more cases t =
            let one = refused_one h.taken_now (chosen_of mid) (notes_of mid).exempt (notes_of mid).asked s t.taken_now (chosen_of new)
            (notes_of new).exempt false t.turned refl (h.asked (u.name s) asked) in
            let Fits : List S → List S → Type 0 = λ c e. FitsNowhere u root c e s in
            let WithChosen : List S → Type 0 = λ c. Fits c (notes_of mid).exempt in
            let WithExempt : List S → Type 0 = λ e. Fits (chosen_of old) e in
            let fits : Fits (chosen_of old) (notes_of old).exempt = subst WithExempt h.exempt (subst WithChosen before.1 one.3) in
            let FitsIt : S → Type 0 = λ x. FitsNowhere u root (chosen_of old) (notes_of old).exempt x in
            let Taken : List S → List S → Type 0 = λ x c. IsOneTaken u root taken (chosen_of old) (notes_of old).exempt more x c false in
            let To : List S → Type 0 = λ c. Taken t.taken_now c in
            let From : List S → Type 0 = λ x. Taken x (chosen_of old) in
            record {
              taken_now = t.taken_now;
              refused_now = t.refused_now;
              turned = subst To (sym (one.1 ∙ before.1))
                  (subst From (sym (one.0 ∙ before.0)) (none_fits (λ x k. ⊎_elim (λ was. before.2 x was) (λ is. subst FitsIt is fits) (cases x k))));
              exempt = one.2 ∙ h.exempt;
              standing = t.standing;
              asked = λ n k. t.asked n (h.asked n k);
            }

        pub tried_last : (more : List S) → Contains more s → (Meets more (chosen_of old) → ⊥) →
            HasTurned u root h.taken_now h.refused_now seeds packages s mid new true → HaveTurned u root taken seeds packages more old new true
        tried_last more listed never t =
            let Chosen : List S → Type 0 = λ c. Contains c s in
            let one = accepted_one h.taken_now (chosen_of mid) (notes_of mid).exempt (notes_of mid).asked s more t.taken_now (chosen_of new)
            (notes_of new).exempt true t.turned refl (h.asked (u.name s) asked)
            (λ k. never (record { shared = s; in_first = listed; in_second = subst Chosen before.1 k })) listed in
            let Taken : List S → List S → List S → Type 0 = λ x c e. IsOneTaken u root x c e more t.taken_now (chosen_of new) true in
            let WithTaken : List S → Type 0 = λ x. Taken x (chosen_of mid) (notes_of mid).exempt in
            let WithChosen : List S → Type 0 = λ c. Taken taken c (notes_of mid).exempt in
            let WithExempt : List S → Type 0 = λ e. Taken taken (chosen_of old) e in
            record {
              taken_now = t.taken_now;
              refused_now = t.refused_now;
              turned = subst WithExempt h.exempt (subst WithChosen before.1 (subst WithTaken before.0 one.0));
              exempt = one.1 ∙ h.exempt;
              standing = t.standing;
              asked = λ n k. t.asked n (h.asked n k);
            }

-- all items that an iterator has given since a loop began with it
pub gives_all : {I X : Type 0} (gives : I → Option X → I → Type 0) (it begun mid : I) → begun ≡ it → (items : List X) → Yields gives begun items mid →
    (r : Option X) (rest : I) → r ≡ None → gives mid r rest → Drains gives it items
gives_all {I} {X} gives it begun mid same items yields r rest is step =
    let From : I → Type 0 = λ i. Yields gives i items mid in
    let Gives : Option X → Type 0 = λ o. gives mid o rest in
    (rest, (mid, subst From same yields, subst Gives is step))
