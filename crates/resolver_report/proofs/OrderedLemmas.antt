-- Ordered lists with the same counts are equal.
use Rattle.std.proofs.Common.{◌≡◌, ℕ, zero, suc, ◌+◌, ◌<◌, Bool, true, false, cond, List, [], ◌∷◌, refl, sym, ◌∙◌, ap, subst, arith, get_or, Contains}
use Rattle.std.specs.Prelude.{count_by}
use Rattle.std.specs.Cmp.{IsStrictWeakOrder}
use Rattle.std.specs.List.Sorted.{IsSortedBy}
use Rattle.std.proofs.lemmas.List.Elements.{Contains-append_right}
use Rattle.std.proofs.lemmas.List.Sums.{sum_by-cons}
use Rattle.resolver_clause_store.specs.Laws.{IsIdentity}

module _ {X : Type 0} (same : X → X → Bool) (identity : IsIdentity same) (lt : X → X → Bool) (order : IsStrictWeakOrder lt)
    (tie : (x y : X) → lt x y ≡ false → lt y x ≡ false → x ≡ y) where
  not_itself : (x : X) → lt x x ≡ false
  not_itself x = at_test (lt x x) refl
    where
      at_test : (b : Bool) → lt x x ≡ b → lt x x ≡ false
      at_test true e = order.one_way x x e
      at_test false e = e

  sorted_rest : (x : X) (xs : List X) → IsSortedBy lt (x ∷ xs) → IsSortedBy lt xs
  sorted_rest x xs sorted k d low high =
      let e : suc k + 1 ≡ suc (k + 1) = omega arith in
      let At : ℕ → Type 0 = λ j. lt (get_or (x ∷ xs) j d) (get_or xs k d) ≡ false in
      subst At e (sorted (suc k) d (omega arith) (omega (arith, high)))

  -- no element is less than the first
  first_least : (x : X) (xs : List X) → IsSortedBy lt (x ∷ xs) → (y : X) → Contains xs y → lt y x ≡ false
  first_least x [] sorted y h = absurd (omega (arith, h.1))
  first_least x (z ∷ zs) sorted y (zero, below, is) =
      let NotLess : X → Type 0 = λ w. lt w x ≡ false in
      subst NotLess is (sorted 0 x (omega arith) (omega arith))
  first_least x (z ∷ zs) sorted y (suc k, below, is) =
      order.chain y z x (first_least z zs (sorted_rest x (z ∷ zs) sorted) y (k, omega (arith, below), is)) (sorted 0 x (omega arith) (omega arith))

  counted_in : (x : X) (ys : List X) → 0 < count_by (same x) ys → Contains ys x
  counted_in x [] h = absurd (omega (arith, h))
  counted_in x (y ∷ ys) h = at_test (same x y) refl (rw (sum_by-cons (λ z. cond (same x z) 1 0) y ys) at h) (counted_in x ys)
    where
      at_test : (b : Bool) → same x y ≡ b → 0 < cond b 1 0 + count_by (same x) ys → (0 < count_by (same x) ys → Contains ys x) → Contains (y ∷ ys) x
      at_test true e k rest = (zero, omega arith, sym (identity.alone x y e))
      at_test false e k rest = Contains-append_right (y ∷ []) ys x (rest (omega (arith, k)))

  count_first : (x z : X) (xs : List X) → count_by (same z) (x ∷ xs) ≡ cond (same z x) 1 0 + count_by (same z) xs
  count_first x z xs = sum_by-cons (λ w. cond (same z w) 1 0) x xs

  count_itself : (x : X) (xs : List X) → count_by (same x) (x ∷ xs) ≡ 1 + count_by (same x) xs
  count_itself x xs = count_first x x xs ∙ ap (λ b. cond b 1 0 + count_by (same x) xs) (identity.itself x)

  -- a counted element of a sorted list is not less than its first element
  not_less : (x y : X) (ys : List X) → IsSortedBy lt (y ∷ ys) → 0 < count_by (same x) (y ∷ ys) → lt x y ≡ false
  not_less x y ys sorted h = at_place (counted_in x (y ∷ ys) h)
    where
      at_place : Contains (y ∷ ys) x → lt x y ≡ false
      at_place (zero, below, is) = let NotLess : X → Type 0 = λ w. lt w y ≡ false in subst NotLess is (not_itself y)
      at_place (suc k, below, is) = first_least y ys sorted x (k, omega (arith, below), is)

  abbrev AreCountsSame : List X → List X → Type 0
  AreCountsSame xs ys = (z : X) → count_by (same z) xs ≡ count_by (same z) ys

  pub sorted_same : (xs ys : List X) → IsSortedBy lt xs → IsSortedBy lt ys → AreCountsSame xs ys → xs ≡ ys
  sorted_same [] [] first second counts = refl
  sorted_same [] (y ∷ ys) first second counts = absurd (omega (arith, counts y, count_itself y ys))
  sorted_same (x ∷ xs) [] first second counts = absurd (omega (arith, counts x, count_itself x xs))
  sorted_same (x ∷ xs) (y ∷ ys) first second counts =
      let up : lt x y ≡ false = not_less x y ys second (omega (arith, counts x, count_itself x xs)) in
      let down : lt y x ≡ false = not_less y x xs first (omega (arith, counts y, count_itself y ys)) in
      let heads : x ≡ y = tie x y up down in
      let tails : AreCountsSame xs ys = λ z.
      let both : ◌≡◌ {A = ℕ} (cond (same z x) 1 0) (cond (same z y) 1 0) = ap (λ w. cond {A = ℕ} (same z w) 1 0) heads in
      omega (arith, counts z, count_first x z xs, count_first y z ys, both) in
      let rest : xs ≡ ys = sorted_same xs ys (sorted_rest x xs first) (sorted_rest y ys second) tails in
      λ i. heads i ∷ rest i
