-- The sorted list of an order that ties no two different values: in order, a permutation, and the only such list.
use Rattle.std.proofs.Common.{◌≡◌, ℕ, suc, ◌<◌, ◌≤◌, ◌+◌, Bool, true, false, cond, List, [], ◌∷◌, length, get_or, refl, arith, sym, ◌∙◌, ap}
use Rattle.std.specs.Prelude.{⊤}
use Rattle.std.specs.List.{sum_by}
use Rattle.std.specs.List.Sorted.{IsPermutation, IsSortedBy}
use Rattle.std.specs.Cmp.{IsTotalOrder, IsStrictWeakOrder}
use Rattle.std.specs.Ordering.{is_lt, ordering_reverse}
use Rattle.std.specs.declared.cmp.Ordering.{Ordering}
use Rattle.std.specs.declared.cmp.Ordering.TheVariants.{Less, Equal, Greater}
use Rattle.std.proofs.lemmas.List.Sorted.{ranks_by, sorted_far, sum_by-IsPermutation, IsPermutation-refl, IsPermutation-cons, IsPermutation-sym}
use Rattle.std.proofs.lemmas.List.Sorted.{IsPermutation-trans, IsPermutation-middle}
use Rattle.std.proofs.lemmas.List.Sums.{sum_by-cons}
use Rattle.std.specs.Fn.{Called, ComparesAs}
use Rattle.std.proofs.lemmas.Fn.{always_returns_same}
use Rattle.std.proofs.lemmas.Cmp.{nat_cmp_total}
use Rattle.std.specs.Ordering.{nat_cmp}
use denote.Ref.{Bor}
use denote.Param.Members.{Mut}
use Rattle.std.proofs.lemmas.Bool.Decides.{nat_tests}
use Rattle.resolver_clause_store.specs.Sorting.{inserted_by, sorted_by}

abbrev one_if : Bool → ℕ
one_if true = 1
one_if false = 0

-- no element of the list is less than x
abbrev IsFirstOf : {X : Type 0} → (X → X → Ordering) → X → List X → Type 0
IsFirstOf cmp x [] = ⊤
IsFirstOf cmp x (y ∷ ys) = (is_lt (cmp y x) ≡ false) × IsFirstOf cmp x ys

abbrev IsRising : {X : Type 0} → (X → X → Ordering) → List X → Type 0
IsRising cmp [] = ⊤
IsRising cmp (x ∷ xs) = IsFirstOf cmp x xs × IsRising cmp xs

sum-inserted : {X : Type 0} (cmp : X → X → Ordering) (f : X → ℕ) (x : X) (ys : List X) → sum_by f (inserted_by cmp x ys) ≡ f x + sum_by f ys
sum-inserted cmp f x [] = sum_by-cons f x []
sum-inserted cmp f x (y ∷ ys) =
    elim (is_lt (cmp y x)) as (λ b. sum_by f (cond b (y ∷ inserted_by cmp x ys) (x ∷ y ∷ ys)) ≡ f x + sum_by f (y ∷ ys)) [
      | true ↦ omega (arith, sum_by-cons f y (inserted_by cmp x ys), sum-inserted cmp f x ys, sum_by-cons f y ys)
      | false ↦ sum_by-cons f x (y ∷ ys)
    ]

sum-sorted : {X : Type 0} (cmp : X → X → Ordering) (f : X → ℕ) (xs : List X) → sum_by f (sorted_by cmp xs) ≡ sum_by f xs
sum-sorted cmp f [] = refl
sum-sorted cmp f (x ∷ xs) = omega (arith, sum-inserted cmp f x (sorted_by cmp xs), sum-sorted cmp f xs, sum_by-cons f x xs)

IsPermutation-inserted : {X : Type 0} (cmp : X → X → Ordering) (x : X) (ys : List X) → IsPermutation (x ∷ ys) (inserted_by cmp x ys)
IsPermutation-inserted cmp x [] = IsPermutation-refl (x ∷ [])
IsPermutation-inserted cmp x (y ∷ ys) =
    elim (is_lt (cmp y x)) as (λ b. IsPermutation (x ∷ y ∷ ys) (cond b (y ∷ inserted_by cmp x ys) (x ∷ y ∷ ys))) [
      | true ↦ IsPermutation-trans (x ∷ y ∷ ys) (y ∷ x ∷ ys) (y ∷ inserted_by cmp x ys)
          (IsPermutation-sym (y ∷ x ∷ ys) (x ∷ y ∷ ys) (IsPermutation-middle (y ∷ []) x ys))
          (IsPermutation-cons y (x ∷ ys) (inserted_by cmp x ys) (IsPermutation-inserted cmp x ys))
      | false ↦ IsPermutation-refl (x ∷ y ∷ ys)
    ]

pub IsPermutation-sorted_by : {X : Type 0} (cmp : X → X → Ordering) (xs : List X) → IsPermutation xs (sorted_by cmp xs)
IsPermutation-sorted_by cmp [] = IsPermutation-refl []
IsPermutation-sorted_by cmp (x ∷ xs) =
    IsPermutation-trans (x ∷ xs) (x ∷ sorted_by cmp xs) (inserted_by cmp x (sorted_by cmp xs))
    (IsPermutation-cons x xs (sorted_by cmp xs) (IsPermutation-sorted_by cmp xs)) (IsPermutation-inserted cmp x (sorted_by cmp xs))

module _ {X : Type 0} (cmp : X → X → Ordering) (order : IsStrictWeakOrder (λ x y. is_lt (cmp x y))) where
  first-behind : (x y : X) (ys : List X) → is_lt (cmp y x) ≡ false → IsFirstOf cmp y ys → IsFirstOf cmp x ys
  first-behind x y [] e h = tt
  first-behind x y (z ∷ zs) e h = (order.chain z y x h.0 e, first-behind x y zs e h.1)

  first-inserted : (z x : X) (ys : List X) → is_lt (cmp x z) ≡ false → IsFirstOf cmp z ys → IsFirstOf cmp z (inserted_by cmp x ys)
  first-inserted z x [] e h = (e, tt)
  first-inserted z x (y ∷ ys) e h =
      elim (is_lt (cmp y x)) as (λ b. IsFirstOf cmp z (cond b (y ∷ inserted_by cmp x ys) (x ∷ y ∷ ys))) [
        | true ↦ (h.0, first-inserted z x ys e h.1)
        | false ↦ (e, h)
      ]

  rising-inserted_at : (x y : X) (ys : List X) (b : Bool) → is_lt (cmp y x) ≡ b → IsRising cmp (inserted_by cmp x ys) → IsRising cmp (y ∷ ys) →
      IsRising cmp (cond b (y ∷ inserted_by cmp x ys) (x ∷ y ∷ ys))
  rising-inserted_at x y ys true e h up = (first-inserted y x ys (order.one_way y x e) up.0, h)
  rising-inserted_at x y ys false e h up = ((e, first-behind x y ys e up.0), up)

  rising-inserted : (x : X) (ys : List X) → IsRising cmp ys → IsRising cmp (inserted_by cmp x ys)
  rising-inserted x [] up = (tt, tt)
  rising-inserted x (y ∷ ys) up = rising-inserted_at x y ys (is_lt (cmp y x)) refl (rising-inserted x ys up.1) up

  rising-sorted : (xs : List X) → IsRising cmp (sorted_by cmp xs)
  rising-sorted [] = tt
  rising-sorted (x ∷ xs) = rising-inserted x (sorted_by cmp xs) (rising-sorted xs)

  first-from_far : (x : X) (ys : List X) → ((j : ℕ) → j < length ys → is_lt (cmp (get_or ys j x) x) ≡ false) → IsFirstOf cmp x ys
  first-from_far x [] h = tt
  first-from_far x (y ∷ ys) h = (h 0 (omega arith), first-from_far x ys (λ j l. h (suc j) (omega arith)))

  rising-from_far : (xs : List X) → ((i j : ℕ) (d : X) → i ≤ j → j < length xs → is_lt (cmp (get_or xs j d) (get_or xs i d)) ≡ false) → IsRising cmp xs
  rising-from_far [] h = tt
  rising-from_far (x ∷ xs) h = (
    first-from_far x xs (λ j l. h 0 (suc j) x (omega arith) (omega arith)),
    rising-from_far xs (λ i j d i≤j l. h (suc i) (suc j) d (omega arith) (omega arith)),
  )

  -- the number of elements less than the first one
  none_less : (x : X) (ys : List X) → IsFirstOf cmp x ys → sum_by (λ a. one_if (is_lt (cmp a x))) ys ≡ 0
  none_less x [] h = refl
  none_less x (y ∷ ys) h = let here : one_if (is_lt (cmp y x)) ≡ 0 = ap one_if h.0 in
      omega (arith, here, none_less x ys h.1, sum_by-cons (λ a. one_if (is_lt (cmp a x))) y ys)

  not_less : (b : Bool) → one_if b ≡ 0 → b ≡ false
  not_less true e = absurd (omega arith)
  not_less false e = refl

  not_itself : (x : X) → is_lt (cmp x x) ≡ false
  not_itself x = elim (is_lt (cmp x x)) as (λ b. is_lt (cmp x x) ≡ b → is_lt (cmp x x) ≡ false) [ true ↦ order.one_way x x | false ↦ λ e. e ] refl

  head_not_less : (x y : X) (xs ys : List X) → IsFirstOf cmp y ys → ((f : X → ℕ) → sum_by f (x ∷ xs) ≡ sum_by f (y ∷ ys)) → is_lt (cmp x y) ≡ false
  head_not_less x y xs ys first same =
      let less : X → ℕ = λ a. one_if (is_lt (cmp a y)) in
      let both : sum_by less (x ∷ xs) ≡ sum_by less (y ∷ ys) = same less in
      let left : sum_by less (x ∷ xs) ≡ less x + sum_by less xs = sum_by-cons less x xs in
      let right : sum_by less (y ∷ ys) ≡ less y + sum_by less ys = sum_by-cons less y ys in
      let here : less y ≡ 0 = ap one_if (not_itself y) in
      let rest : sum_by less ys ≡ 0 = none_less y ys first in
      let none : less x ≡ 0 = omega (arith, both, left, right, here, rest) in
      not_less (is_lt (cmp x y)) none

  rising_unique : (alike : (x y : X) → is_lt (cmp x y) ≡ false → is_lt (cmp y x) ≡ false → x ≡ y) (xs ys : List X) → IsRising cmp xs → IsRising cmp ys →
      ((f : X → ℕ) → sum_by f xs ≡ sum_by f ys) → xs ≡ ys
  rising_unique alike [] [] up up' same = refl
  rising_unique alike [] (y ∷ ys) up up' same = absurd (let e : 0 ≡ sum_by (λ _. 1) (y ∷ ys) = same (λ _. 1) in omega (arith, e, sum_by-cons (λ _. 1) y ys))
  rising_unique alike (x ∷ xs) [] up up' same = absurd (let e : sum_by (λ _. 1) (x ∷ xs) ≡ 0 = same (λ _. 1) in omega (arith, e, sum_by-cons (λ _. 1) x xs))
  rising_unique alike (x ∷ xs) (y ∷ ys) up up' same =
      let head : x ≡ y = alike x y (head_not_less x y xs ys up'.0 same) (head_not_less y x ys xs up.0 (λ f. sym (same f))) in
      let rest : xs ≡ ys = rising_unique alike xs ys up.1 up'.1 (λ f. omega (arith, same f, sum_by-cons f x xs, sum_by-cons f y ys, ap f head)) in
      ap (λ z. z ∷ xs) head ∙ ap (λ zs. y ∷ zs) rest

neither_less : (o p : Ordering) → o ≡ ordering_reverse p → is_lt o ≡ false → is_lt p ≡ false → o ≡ Equal
neither_less Less p e l r = absurd cc
neither_less Equal p e l r = refl
neither_less Greater Less e l r = absurd cc
neither_less Greater Equal e l r = absurd cc
neither_less Greater Greater e l r = absurd cc

-- sorting by an order that ties no two different values gives the sorted list
pub sorted_by-unique : {X : Type 0} (cmp : X → X → Ordering) → IsTotalOrder cmp → ((x y : X) → cmp x y ≡ Equal → x ≡ y) → (xs ys : List X) →
    IsPermutation xs ys → IsSortedBy (λ x y. is_lt (cmp x y)) ys → ys ≡ sorted_by cmp xs
sorted_by-unique {X} cmp total tied xs ys moved up =
    let order : IsStrictWeakOrder (λ (x y : X). is_lt (cmp x y)) = ranks_by total (λ x. x) in
    rising_unique cmp order (λ x y l r. tied x y (neither_less (cmp x y) (cmp y x) (total.antisymm x y) l r)) ys (sorted_by cmp xs)
    (rising-from_far cmp order ys (sorted_far (λ x y. is_lt (cmp x y)) order ys up))
    (rising-sorted cmp order xs)
    (λ f. sum_by-IsPermutation f xs ys moved ∙ sym (sum-sorted cmp f xs))

-- the same from the clauses of `sort_unstable_by`, if each call of the closure compares its two arguments
pub sorted_by-from_clause : {X : Type 0} (cmp : X → X → Ordering) → IsTotalOrder cmp → ((x y : X) → cmp x y ≡ Equal → x ≡ y) →
    {F : Type 0} {g : Mut F (Bor X × (Bor X × Unit {0})) Ordering} {f : F} (xs ys : List X) → IsPermutation xs ys →
    ((lt : X → X → Bool) → IsStrictWeakOrder lt → ComparesAs g lt f → IsSortedBy lt ys) →
    ((a : Bor X × (Bor X × Unit {0})) (r : Ordering) (f' : F) → Called g f a r f' → (r ≡ cmp a.0.now a.1.0.now) × (f' ≡ f)) → ys ≡ sorted_by cmp xs
sorted_by-from_clause {X} cmp total tied {g = g} {f = f} xs ys moved up calls =
    sorted_by-unique cmp total tied xs ys moved (up (λ x y. is_lt (cmp x y)) (ranks_by total (λ x. x))
    (always_returns_same g (λ a r. is_lt r ≡ is_lt (cmp a.0.now a.1.0.now)) f (λ a r f' k. (ap is_lt (calls a r f' k).0, (calls a r f' k).1))))

pub nat_cmp-tied : (x y : ℕ) → nat_cmp x y ≡ Equal → x ≡ y
nat_cmp-tied x y e = grind (arith, nat_tests)

-- numbers in their own order
pub sorted_by-numbers : (xs ys : List ℕ) → IsPermutation xs ys → IsSortedBy (λ x y. is_lt (nat_cmp x y)) ys → ys ≡ sorted_by nat_cmp xs
sorted_by-numbers xs ys moved up = sorted_by-unique nat_cmp nat_cmp_total nat_cmp-tied xs ys moved up
