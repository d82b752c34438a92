-- Lists and options, and their elements.
use Rattle.std.proofs.Common.{◌≡◌, ℕ, zero, suc, ◌+◌, ◌<◌, ◌⊎◌, inl, inr, List, [], ◌∷◌, ◌++◌, length, map, cond, arith, refl, sym, ap, ◌∙◌, subst, ⊎_elim}
use Rattle.std.proofs.Common.{length-append, Bool, true, Contains, All}
use Rattle.std.specs.Prelude.{Option, Some, None, IsNone, filter, slice_get}
use Rattle.std.specs.List.{AllZip, list_any}
use Rattle.std.proofs.Math.Seq.{get_or-append_seam}
use Rattle.std.proofs.lemmas.Bool.{cases_Bool, true≢false}
use Rattle.std.proofs.lemmas.List.Elements.{All-cons, All-head, All-nil, All-tail}
use Rattle.std.proofs.lemmas.List.Folds.{Any-from_list_any, list_any_at}
use Rattle.std.proofs.lemmas.Option.{get_or_from_slice_get, slice_get-get_or, slice_get_within}

pub Contains-here : {X : Type 0} (x : X) (xs : List X) → Contains (x ∷ xs) x
Contains-here x xs = (0, omega arith, refl)

pub Contains-there : {X : Type 0} (y : X) (xs : List X) (x : X) → Contains xs x → Contains (y ∷ xs) x
Contains-there y xs x (k, below, is) = (suc k, omega arith, is)

pub Contains-cons_cases : {X : Type 0} (y : X) (xs : List X) (x : X) → Contains (y ∷ xs) x → (y ≡ x) ⊎ Contains xs x
Contains-cons_cases y xs x (zero, below, is) = inl is
Contains-cons_cases y xs x (suc k, below, is) = inr (k, omega arith, is)

pub Contains-none : {X : Type 0} (x : X) → Contains [] x → ⊥
Contains-none x h = absurd (omega (arith, h.1))

pub Contains-one : {X : Type 0} (x y : X) → Contains (x ∷ []) y → x ≡ y
Contains-one x y h = ⊎_elim (λ is. is) (λ t. absurd (Contains-none y t)) (Contains-cons_cases x [] y h)

pub Contains-map : {X Y : Type 0} (f : X → Y) (xs : List X) (x : X) → Contains xs x → Contains (map f xs) (f x)
Contains-map f [] x h = absurd (Contains-none x h)
Contains-map f (y ∷ ys) x h = ⊎_elim
    (λ e. (0, omega arith, ap f e))
    (λ t. Contains-there (f y) (map f ys) (f x) (Contains-map f ys x t))
    (Contains-cons_cases y ys x h)

pub Contains-map_back : {X Y : Type 0} (f : X → Y) (xs : List X) (y : Y) → Contains (map f xs) y → (x : X) × Contains xs x × (f x ≡ y)
Contains-map_back f [] y h = absurd (Contains-none y h)
Contains-map_back f (x ∷ xs) y h = ⊎_elim
    (λ e. (x, Contains-here x xs, e))
    (λ t. let w = Contains-map_back f xs y t in (w.0, Contains-there x xs w.0 w.1, w.2))
    (Contains-cons_cases (f x) (map f xs) y h)

pub All-front : {X : Type 0} (P : X → Type 0) (xs ys : List X) → All P (xs ++ ys) → All P xs
All-front P [] ys all = All-nil P
All-front P (x ∷ xs) ys all = All-cons P x xs (All-head P x (xs ++ ys) all) (All-front P xs ys (All-tail P x (xs ++ ys) all))

pub slice_get-append_left : {X : Type 0} (xs ys : List X) (k : ℕ) → k < length xs → slice_get (xs ++ ys) k ≡ slice_get xs k
slice_get-append_left [] ys k h = absurd (omega (arith, h))
slice_get-append_left (x ∷ xs) ys zero h = refl
slice_get-append_left (x ∷ xs) ys (suc k) h = slice_get-append_left xs ys k (omega (arith, h))

pub slice_get-last : {X : Type 0} (xs : List X) (x : X) → slice_get (xs ++ x ∷ []) (length xs) ≡ Some x
slice_get-last xs x =
    let long : length (xs ++ x ∷ []) ≡ length xs + 1 = simp length-append in
    slice_get-get_or (xs ++ x ∷ []) (length xs) x (omega (arith, long)) ∙ ap Some (get_or-append_seam xs x [] x)

pub Contains-at : {X : Type 0} (xs : List X) (k : ℕ) (x : X) → slice_get xs k ≡ Some x → Contains xs x
Contains-at xs k x at = (k, slice_get_within xs k x at, get_or_from_slice_get xs k x x at)

pub Contains-filter : {X : Type 0} (p : X → Bool) (xs : List X) (x : X) → Contains (filter p xs) x → Contains xs x
Contains-filter p [] x h = h
Contains-filter {X} p (y ∷ ys) x h = ⊎_elim
    (λ e. let Has : Bool → Type 0 = λ b. Contains (cond b (y ∷ filter p ys) (filter p ys)) x in
    ⊎_elim (λ is. let P : X → Type 0 = λ q. Contains (y ∷ ys) q in subst P is (Contains-here y ys)) (λ t. Contains-there y ys x (Contains-filter p ys x t))
    (Contains-cons_cases y (filter p ys) x (subst Has e h)))
    (λ e. let Has : Bool → Type 0 = λ b. Contains (cond b (y ∷ filter p ys) (filter p ys)) x in Contains-there y ys x (Contains-filter p ys x (subst Has e h)))
    (cases_Bool (p y))

pub AllZip-append : {A B : Type 0} (R : A → B → Type 0) (xs xs' : List A) (ys ys' : List B) → AllZip R xs ys → AllZip R xs' ys' →
    AllZip R (xs ++ xs') (ys ++ ys')
AllZip-append R [] xs' [] ys' h k = k
AllZip-append R [] xs' (z ∷ zs) ys' h k = absurd h
AllZip-append R (z ∷ zs) xs' [] ys' h k = absurd h
AllZip-append R (z ∷ zs) xs' (w ∷ ws) ys' h k = (h.0, AllZip-append R zs xs' ws ys' h.1 k)

-- lists that agree element by element: each element of one has a partner in the other
pub AllZip-left : {A B : Type 0} (R : A → B → Type 0) (xs : List A) (ys : List B) → AllZip R xs ys → (x : A) → Contains xs x → (y : B) ×
    Contains ys y × R x y
AllZip-left R [] ys h x inside = absurd (Contains-none x inside)
AllZip-left R (x ∷ xs) [] h z inside = absurd h
AllZip-left {A} {B} R (x ∷ xs) (y ∷ ys) (first, rest) z inside = ⊎_elim
    (λ (same : x ≡ z). let At : A → Type 0 = λ q. R q y in (y, Contains-here y ys, subst At same first))
    (λ (later : Contains xs z). let w = AllZip-left R xs ys rest z later in (w.0, Contains-there y ys w.0 w.1, w.2))
    (Contains-cons_cases x xs z inside)

pub AllZip-right : {A B : Type 0} (R : A → B → Type 0) (xs : List A) (ys : List B) → AllZip R xs ys → (y : B) → Contains ys y → (x : A) ×
    Contains xs x × R x y
AllZip-right R xs [] h y inside = absurd (Contains-none y inside)
AllZip-right R [] (y ∷ ys) h z inside = absurd h
AllZip-right {A} {B} R (x ∷ xs) (y ∷ ys) (first, rest) z inside = ⊎_elim
    (λ (same : y ≡ z). (x, Contains-here x xs, subst (R x) same first))
    (λ (later : Contains ys z). let w = AllZip-right R xs ys rest z later in (w.0, Contains-there x xs w.0 w.1, w.2))
    (Contains-cons_cases y ys z inside)

pub slice_get-inside : {X : Type 0} (xs : List X) (n : ℕ) (x : X) → slice_get xs n ≡ Some x → n < length xs
slice_get-inside xs n x e = slice_get_within xs n x e

pub list_any-contains : {X : Type 0} (p : X → Bool) (xs : List X) (x : X) → Contains xs x → p x ≡ true → list_any p xs ≡ true
list_any-contains {X} p xs x (k, below, is) e =
    let P : X → Type 0 = λ t. p t ≡ true in
    list_any_at p xs k x below (subst P (sym is) e)

pub list_any-witness : {X : Type 0} (p : X → Bool) (xs : List X) → list_any p xs ≡ true → (x : X) × Contains xs x × (p x ≡ true)
list_any-witness p xs e = let w = Any-from_list_any p xs e in (w.1, (w.0, w.2, w.3), w.4)

pub is_none : {X : Type 0} (o : Option X) → IsNone o → o ≡ None
is_none None h = refl
is_none (Some x) h = absurd (true≢false h)
