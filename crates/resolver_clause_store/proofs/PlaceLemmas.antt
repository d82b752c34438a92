-- The elements at the places of a list that grows.
use Rattle.std.proofs.Common.{◌≡◌, ℕ, ◌+◌, ◌<◌, ◌≤◌, ◌⊎◌, List, [], ◌∷◌, ◌++◌, length, length-append, get_or, arith, inl, inr, sym, ap, ◌∙◌}
use Rattle.std.proofs.Common.{subst, ⊎_elim, Contains}
use Rattle.std.specs.Prelude.{Some, slice_get}
use Rattle.std.proofs.Math.ListN.{get_or-append}
use Rattle.std.proofs.lemmas.Bool.{cases_lt}
use Rattle.std.proofs.lemmas.Option.{same_Some, slice_get-get_or, slice_get_within, get_or_from_slice_get}
use Rattle.std.specs.List.{IsDistinct}
use Rattle.std.proofs.lemmas.Bool.{false≢true}
use Rattle.std.proofs.lemmas.Map.Keys.{apart_from_distinct}
use Rattle.std.proofs.Common.{Bool, false}
use Rattle.resolver_clause_store.specs.Laws.{IsIdentity}
use Rattle.resolver_clause_store.proofs.ListLemmas.{Contains-at as place_in, slice_get-last as place_last}
use Rattle.resolver_clause_store.specs.Variables.{AreDistinct, Keeps}

pub place_left : {X : Type 0} (xs ys : List X) (k : ℕ) (x : X) → slice_get xs k ≡ Some x → slice_get (xs ++ ys) k ≡ Some x
place_left xs ys k x at =
    let below : k < length xs = slice_get_within xs k x at in
    let long : length (xs ++ ys) ≡ length xs + length ys = simp length-append in
    slice_get-get_or (xs ++ ys) k x (omega (arith, below, long)) ∙ ap Some (get_or-append xs ys x k below ∙ get_or_from_slice_get xs k x x at)

-- an element of the longer list was there before, or is the last one
pub place_cases : {X : Type 0} (xs : List X) (y : X) (k : ℕ) (x : X) → slice_get (xs ++ y ∷ []) k ≡ Some x → (slice_get xs k ≡ Some x) ⊎
    ((k ≡ length xs) × (y ≡ x))
place_cases {X} xs y k x at =
    let long : length (xs ++ y ∷ []) ≡ length xs + 1 = simp length-append in
    let below : k < length (xs ++ y ∷ []) = slice_get_within (xs ++ y ∷ []) k x at in
    ⊎_elim
    (λ (less : k < length xs). inl
    (slice_get-get_or xs k x less ∙ ap Some (sym (get_or-append xs (y ∷ []) x k less) ∙ get_or_from_slice_get (xs ++ y ∷ []) k x x at)))
    (λ (more : length xs ≤ k).
    let end : k ≡ length xs = omega (arith, below, long, more) in
    let At : ℕ → Type 0 = λ n. slice_get (xs ++ y ∷ []) n ≡ Some x in
    inr (end, same_Some y x (sym (place_last xs y) ∙ subst At end at)))
    (cases_lt k (length xs))

pub place_of_member : {X : Type 0} (xs : List X) (x : X) → Contains xs x → (k : ℕ) × (slice_get xs k ≡ Some x)
place_of_member xs x (k, below, is) = (k, slice_get-get_or xs k x below ∙ ap Some is)

-- one more element that was not there
pub AreDistinct-push : {X : Type 0} (xs : List X) (x : X) → (Contains xs x → ⊥) → AreDistinct xs → AreDistinct (xs ++ x ∷ [])
AreDistinct-push {X} xs x absent distinct = record {
  same = λ i k y one other.
      ⊎_elim
      (λ (at : slice_get xs i ≡ Some y). ⊎_elim
      (λ (to : slice_get xs k ≡ Some y). distinct.same i k y at to)
      (λ (last : (k ≡ length xs) × (x ≡ y)). let Has : X → Type 0 = λ z. Contains xs z in absurd (absent (subst Has (sym last.1) (place_in xs i y at))))
      (place_cases xs x k y other))
      (λ (end : (i ≡ length xs) × (x ≡ y)). ⊎_elim
      (λ (to : slice_get xs k ≡ Some y). let Has : X → Type 0 = λ z. Contains xs z in absurd (absent (subst Has (sym end.1) (place_in xs k y to))))
      (λ (last : (k ≡ length xs) × (x ≡ y)). end.0 ∙ sym last.0)
      (place_cases xs x k y other))
      (place_cases xs x i y one);
}

pub Keeps-same : {X : Type 0} (xs : List X) → Keeps xs xs
Keeps-same xs = record { kept = λ k x at. at }

pub Keeps-trans : {X : Type 0} (xs ys zs : List X) → Keeps xs ys → Keeps ys zs → Keeps xs zs
Keeps-trans xs ys zs one other = record { kept = λ k x at. other.kept k x (one.kept k x at) }

pub Keeps-push : {X : Type 0} (xs : List X) (x : X) → Keeps xs (xs ++ x ∷ [])
Keeps-push xs x = record { kept = λ k y at. place_left xs (x ∷ []) k y at }

-- elements that a test tells apart are distinct
pub AreDistinct-from : {X : Type 0} (same : X → X → Bool) → IsIdentity same → (xs : List X) → IsDistinct same xs → AreDistinct xs
AreDistinct-from {X} same identity xs distinct = record {
  same = λ i k x one other.
      let below_i : i < length xs = slice_get_within xs i x one in
      let below_k : k < length xs = slice_get_within xs k x other in
      let At : X → X → Type 0 = λ a b. same a b ≡ false in
      let never : same x x ≡ false → ⊥ = λ e. false≢true (sym e ∙ identity.itself x) in
      ⊎_elim
      (λ (less : i < k). absurd (never
      (subst (λ a. At a x) (get_or_from_slice_get xs i x x one)
      (subst (λ b. At (get_or xs i x) b) (get_or_from_slice_get xs k x x other) (apart_from_distinct same xs i k x distinct less below_k)))))
      (λ (not_less : k ≤ i). ⊎_elim
      (λ (more : k < i). absurd (never
      (subst (λ a. At a x) (get_or_from_slice_get xs k x x other)
      (subst (λ b. At (get_or xs k x) b) (get_or_from_slice_get xs i x x one) (apart_from_distinct same xs k i x distinct more below_i)))))
      (λ (not_more : i ≤ k). omega (arith, not_less, not_more))
      (cases_lt k i))
      (cases_lt i k);
}
