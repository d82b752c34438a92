-- The places of the edges of a node.
use Rattle.std.proofs.Common.{◌≡◌, ◌≢◌, ◌⊎◌, ℕ, zero, suc, ◌+◌, ◌<◌, Bool, true, false, cond, List, [], ◌∷◌, ◌++◌, length, reverse, refl, sym, ◌∙◌, ap, subst}
use Rattle.std.proofs.Common.{inl, inr, arith, get_or, set, take, ◌≤◌, Vec, Global}
use Rattle.std.specs.Prelude.{◌==◌, filter, Some, None, slice_get}
use Rattle.std.specs.List.{cons_option, filter_map}
use Rattle.std.proofs.lemmas.List.{get_or_append_left, get_or_push, get_or-set_same, get_or-set_other, length-set, map-append, reverse-append, take_all}
use Rattle.std.proofs.lemmas.List.{take_more}
use Rattle.std.proofs.Common.{length-append}
use Rattle.std.proofs.lemmas.Option.{slice_get-get_or}
use Rattle.std.proofs.lemmas.Bool.{true≢false}
use Rattle.resolver_report.specs.declared.graph.Edge.{Edge}
use Rattle.resolver_report.specs.EdgePlaces.{AreEmpty, ArePlaces, appended, lists_in, passes, places_passing}
use Rattle.resolver_report.proofs.AlikeLemmas.{itself_number, same_numbers}
use Rattle.resolver_report.proofs.CandidateListLemmas.{cases_lt_suc}
use Rattle.resolver_report.proofs.ListLemmas.{filter-range-pass, filter-range-fail}

module _ {X : Type 0} where
  pub lists-set : (vs : List (Vec X Global)) (i : ℕ) (v : Vec X Global) → lists_in (set vs i v) ≡ set (lists_in vs) i v.items
  lists-set [] i v = refl
  lists-set (w ∷ vs) zero v = refl
  lists-set (w ∷ vs) (suc i) v = ap (λ xss. w.items ∷ xss) (lists-set vs i v)

  pub lists-at : (vs : List (Vec X Global)) (i : ℕ) (d : Vec X Global) → i < length vs → get_or (lists_in vs) i [] ≡ (get_or vs i d).items
  lists-at [] i d h = absurd (omega (arith, h))
  lists-at (w ∷ vs) zero d h = refl
  lists-at (w ∷ vs) (suc i) d h = lists-at vs i d (omega (arith, h))

  pub pushed : (vs : List (Vec X Global)) (i : ℕ) (v d : Vec X Global) (x : X) → i < length vs → d ≡ get_or vs i d → v.items ≡ d.items ++ x ∷ [] →
      lists_in (set vs i v) ≡ appended (lists_in vs) i x
  pushed vs i v d x h at are = lists-set vs i v ∙
      ap (set (lists_in vs) i) (are ∙ ap (λ (w : Vec X Global). w.items ++ x ∷ []) at ∙ ap (λ xs. xs ++ x ∷ []) (sym (lists-at vs i d h)))

  pub empty_none : (vs : List (Vec X Global)) → vs ≡ [] → AreEmpty 0 (lists_in vs)
  empty_none vs none =
      let Empty : List (Vec X Global) → Type 0 = λ ws. AreEmpty 0 (lists_in ws) in
      subst Empty (sym none) (record { long = refl; empty = λ n lt. absurd (omega (arith, lt)) })

  pub empty_next : (count : ℕ) (vs more : List (Vec X Global)) (v : Vec X Global) → more ≡ vs ++ v ∷ [] → v.items ≡ [] → AreEmpty count (lists_in vs) →
      AreEmpty (count + 1) (lists_in more)
  empty_next count vs more v are none h = record {
    long = ap length split ∙ size;
    empty = λ n lt. ap (λ xss. get_or xss n []) split ∙ at_place n (cases_lt_suc n count lt);
  }
    where
      split : lists_in more ≡ lists_in vs ++ v.items ∷ []
      split = ap lists_in are ∙ map-append (λ w. w.items) vs (v ∷ [])

      size : length (lists_in vs ++ v.items ∷ []) ≡ count + 1
      size = simp (length-append) (omega (arith, h.long))

      at_place : (n : ℕ) → (n < count) ⊎ (n ≡ count) → get_or (lists_in vs ++ v.items ∷ []) n [] ≡ []
      at_place n (inl lt) = get_or_append_left (lists_in vs) (v.items ∷ []) [] n (omega (arith, lt, h.long)) ∙ h.empty n lt
      at_place n (inr is) = get_or_push (lists_in vs) v.items [] n (h.long ∙ sym is) ∙ none

module _ {S : Type 0} (count : ℕ) (test : ℕ → Edge S → Bool) (edges : List (Edge S)) where
  pub places_none : (xss : List (List ℕ)) → AreEmpty count xss → ArePlaces count test edges 0 xss
  places_none xss h = record { long = h.long; each = h.empty }

  pub places_more : (k : ℕ) (e : Edge S) (i : ℕ) (xss yss : List (List ℕ)) → k < length edges → e ≡ get_or edges k e → ((n : ℕ) → test n e ≡ (i == n)) →
      i < count → yss ≡ appended xss i k → ArePlaces count test edges k xss → ArePlaces count test edges (k + 1) yss
  places_more k e i xss yss lt at told below are h = record {
    long = ap length are ∙ length-set xss i (get_or xss i [] ++ k ∷ []) ∙ h.long;
    each = λ n less. ap (λ zss. get_or zss n []) are ∙ at_test n less (i == n) refl;
  }
    where
      there : slice_get edges k ≡ Some e
      there = slice_get-get_or edges k e lt ∙ ap Some (sym at)

      tested : (n : ℕ) → passes (test n) (slice_get edges k) ≡ (i == n)
      tested n = ap (passes (test n)) there ∙ told n

      at_test : (n : ℕ) → n < count → (b : Bool) → (i == n) ≡ b → get_or (appended xss i k) n [] ≡ places_passing (test n) edges (k + 1)
      at_test n less true e' =
          let same : i ≡ n = same_numbers i n e' in
          let At : ℕ → Type 0 = λ m. get_or (appended xss i k) m [] ≡ get_or xss m [] ++ k ∷ [] in
          subst At same (get_or-set_same xss i (get_or xss i [] ++ k ∷ []) [] (omega (arith, below, h.long))) ∙ ap (λ ys. ys ++ k ∷ []) (h.each n less) ∙
          sym (filter-range-pass (λ m. passes (test n) (slice_get edges m)) k (tested n ∙ e'))
      at_test n less false e' =
          let apart : n ≢ i = λ is. true≢false (sym (ap (λ m. i == m) is ∙ itself_number i) ∙ e') in
          get_or-set_other xss i n (get_or xss i [] ++ k ∷ []) [] apart ∙ h.each n less ∙
          sym (filter-range-fail (λ m. passes (test n) (slice_get edges m)) k (tested n ∙ e'))

turned : (rest before : List ℕ) (last : ℕ) → rest ≡ before ++ last ∷ [] → reverse rest ≡ last ∷ reverse before
turned rest before last is = ap reverse is ∙ reverse-append before (last ∷ [])

-- The places of the elements that pass a test.
module _ {X : Type 0} where
  abbrev pub at_places : List X → List ℕ → List X
  at_places xs ks = filter_map (slice_get xs) ks

  at_some : (xs : List X) (k : ℕ) (x : X) (ks : List ℕ) → slice_get xs k ≡ Some x → at_places xs (k ∷ ks) ≡ x ∷ at_places xs ks
  at_some xs k x ks e = ap (λ o. cons_option o (at_places xs ks)) e

  at_none : (xs : List X) (k : ℕ) (ks : List ℕ) → slice_get xs k ≡ None → at_places xs (k ∷ ks) ≡ at_places xs ks
  at_none xs k ks e = ap (λ o. cons_option o (at_places xs ks)) e

  pub left_some : (xs : List X) (rest before : List ℕ) (last : ℕ) (x : X) → rest ≡ before ++ last ∷ [] → slice_get xs last ≡ Some x →
      at_places xs (reverse rest) ≡ x ∷ at_places xs (reverse before)
  left_some xs rest before last x is e = ap (at_places xs) (turned rest before last is) ∙ at_some xs last x (reverse before) e

  pub left_none : (xs : List X) (rest before : List ℕ) (last : ℕ) → rest ≡ before ++ last ∷ [] → slice_get xs last ≡ None →
      at_places xs (reverse rest) ≡ at_places xs (reverse before)
  left_none xs rest before last is e = ap (at_places xs) (turned rest before last is) ∙ at_none xs last (reverse before) e

  -- the elements that pass, the last one first
  module _ (p : X → Bool) (xs : List X) where
    one_more : (k : ℕ) → k < length xs → at_places xs (reverse (places_passing p xs k)) ≡ filter p (reverse (take k xs)) →
        at_places xs (reverse (places_passing p xs (k + 1))) ≡ filter p (reverse (take (k + 1) xs))
    one_more k lt h = with_element (get_element xs k lt)
      where
        get_element : (ys : List X) (i : ℕ) → i < length ys → (x : X) × (slice_get ys i ≡ Some x) × (x ≡ get_or ys i x)
        get_element [] i below = absurd (omega (arith, below))
        get_element (y ∷ ys) zero below = (y, refl, refl)
        get_element (y ∷ ys) (suc i) below = get_element ys i (omega (arith, below))

        with_element : (x : X) × (slice_get xs k ≡ Some x) × (x ≡ get_or xs k x) →
            at_places xs (reverse (places_passing p xs (k + 1))) ≡ filter p (reverse (take (k + 1) xs))
        with_element (x, there, is) = at_test (p x) refl
          where
            longer : take (k + 1) xs ≡ take k xs ++ x ∷ []
            longer = take_more xs k x lt ∙ ap (λ z. take k xs ++ z ∷ []) (sym is)

            right : filter p (reverse (take (k + 1) xs)) ≡ cond (p x) (x ∷ filter p (reverse (take k xs))) (filter p (reverse (take k xs)))
            right = ap (λ ys. filter p (reverse ys)) longer ∙ ap (filter p) (reverse-append (take k xs) (x ∷ []))

            tested : (b : Bool) → p x ≡ b → passes p (slice_get xs k) ≡ b
            tested b e = ap (passes p) there ∙ e

            at_test : (b : Bool) → p x ≡ b → at_places xs (reverse (places_passing p xs (k + 1))) ≡ filter p (reverse (take (k + 1) xs))
            at_test true e =
                left_some xs (places_passing p xs (k + 1)) (places_passing p xs k) k x
                (filter-range-pass (λ m. passes p (slice_get xs m)) k (tested true e)) there
                ∙ ap (λ ys. x ∷ ys) h ∙ sym (right ∙ ap (λ b. cond b (x ∷ filter p (reverse (take k xs))) (filter p (reverse (take k xs)))) e)
            at_test false e =
                ap (λ ks. at_places xs (reverse ks)) (filter-range-fail (λ m. passes p (slice_get xs m)) k (tested false e))
                ∙ h ∙ sym (right ∙ ap (λ b. cond b (x ∷ filter p (reverse (take k xs))) (filter p (reverse (take k xs)))) e)

    so_far : (k : ℕ) → k ≤ length xs → at_places xs (reverse (places_passing p xs k)) ≡ filter p (reverse (take k xs))
    so_far zero h = refl
    so_far (suc k) h =
        let next : k + 1 ≡ suc k = omega arith in
        let Told : ℕ → Type 0 = λ m. at_places xs (reverse (places_passing p xs m)) ≡ filter p (reverse (take m xs)) in
        subst Told next (one_more k (omega (arith, h)) (so_far k (omega (arith, h))))

    pub passing_back : (ks : List ℕ) → ks ≡ places_passing p xs (length xs) → at_places xs (reverse ks) ≡ filter p (reverse xs)
    passing_back ks are = ap (λ ms. at_places xs (reverse ms)) are ∙ so_far (length xs) (omega arith) ∙
        ap (λ ys. filter p (reverse ys)) (take_all (length xs) xs (omega arith))
