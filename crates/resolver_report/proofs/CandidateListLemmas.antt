-- Lists that are gathered from elements.
use Rattle.std.proofs.Common.{◌≡◌, ◌⊎◌, ℕ, zero, suc, ◌+◌, ◌<◌, List, [], ◌∷◌, ◌++◌, length, refl, sym, ◌∙◌, ap, subst, arith, get_or, take, Contains, inl, inr}
use Rattle.std.specs.List.{flat_map}
use Rattle.std.proofs.lemmas.List.{append-nil, take_more}
use Rattle.std.proofs.lemmas.List.Elements.{Contains-append_left, Contains-append_right, Contains-append_cases}
use Rattle.std.proofs.lemmas.Grind.{flat_map-append}

-- a list gathered from elements, and from one more element
pub flat_map_next : {X Y : Type 0} (f : X → List Y) (xs : List X) (found : List Y) (i : ℕ) (x : X) → i < length xs → x ≡ get_or xs i x →
    found ≡ flat_map f (take i xs) → found ++ f x ≡ flat_map f (take (i + 1) xs)
flat_map_next f xs found i x h is are =
    let next : take (i + 1) xs ≡ take i xs ++ x ∷ [] = take_more xs i x h ∙ ap (λ z. take i xs ++ z ∷ []) (sym is) in
    ap (λ ys. ys ++ f x) are ∙ ap (λ ys. flat_map f (take i xs) ++ ys) (sym (append-nil (f x))) ∙ sym (flat_map-append f (take i xs) (x ∷ [])) ∙
    ap (flat_map f) (sym next)

-- each value of an element is gathered
pub gathered : {X Y : Type 0} (f : X → List Y) (xs : List X) (x : X) (y : Y) → Contains xs x → Contains (f x) y → Contains (flat_map f xs) y
gathered f [] x y h inside = absurd (omega (arith, h.1))
gathered {X} f (z ∷ zs) x y (zero, below, is) inside =
    let Gives : X → Type 0 = λ w. Contains (f w) y in
    Contains-append_left (f z) (flat_map f zs) y (subst Gives (sym is) inside)
gathered f (z ∷ zs) x y (suc k, below, is) inside = Contains-append_right (f z) (flat_map f zs) y (gathered f zs x y (k, omega (arith, below), is) inside)

-- a gathered value comes from one of the elements
pub gathered_from : {X Y : Type 0} (f : X → List Y) (xs : List X) (y : Y) → Contains (flat_map f xs) y → (x : X) × Contains xs x × Contains (f x) y
gathered_from f [] y h = absurd (omega (arith, h.1))
gathered_from f (z ∷ zs) y h = by (Contains-append_cases (f z) (flat_map f zs) y h) (gathered_from f zs y)
  where
    by : Contains (f z) y ⊎ Contains (flat_map f zs) y → (Contains (flat_map f zs) y → (x : _) × Contains zs x × Contains (f x) y) → (x : _) ×
        Contains (z ∷ zs) x × Contains (f x) y
    by (inl here) rest = (z, (zero, omega arith, refl), here)
    by (inr later) rest = let found = rest later in (found.0, Contains-append_right (z ∷ []) zs found.0 found.1, found.2)

pub cases_lt_suc : (k n : ℕ) → k < n + 1 → (k < n) ⊎ (k ≡ n)
cases_lt_suc zero zero h = inr refl
cases_lt_suc zero (suc n) h = inl (omega arith)
cases_lt_suc (suc k) zero h = absurd (omega (arith, h))
cases_lt_suc (suc k) (suc n) h = at_rest (cases_lt_suc k n (omega (arith, h)))
  where
    at_rest : (k < n) ⊎ (k ≡ n) → (suc k < suc n) ⊎ (suc k ≡ suc n)
    at_rest (inl below) = inl (omega (arith, below))
    at_rest (inr is) = inr (ap suc is)
