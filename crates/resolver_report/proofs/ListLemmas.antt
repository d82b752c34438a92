-- Lists of numbers with one more element.
use Rattle.std.proofs.Common.{◌≡◌, ℕ, zero, suc, ◌+◌, Bool, true, false, [], ◌∷◌, ◌++◌, map, refl, ◌∙◌, ap, arith, List}
use Rattle.std.proofs.Common.{add-zero, add-one}
use Rattle.std.specs.Prelude.{filter}
use Rattle.std.specs.List.{range_with_len}
use Rattle.std.proofs.lemmas.List.{map-append, append-nil}
use Rattle.std.proofs.lemmas.List.Elements.{filter-append}

pub range-suc : (a n : ℕ) → range_with_len a (suc n) ≡ range_with_len a n ++ (a + n) ∷ []
range-suc a zero = rw add-zero refl
range-suc a (suc n) = let same : (a + 1) + n ≡ a + suc n = omega arith in
    ap (λ xs. a ∷ xs) (range-suc (a + 1) n ∙ ap (λ k. range_with_len (a + 1) n ++ k ∷ []) same)

pub range-next : (n : ℕ) → range_with_len 0 (n + 1) ≡ range_with_len 0 n ++ n ∷ []
range-next n = let same : 0 + n ≡ n = omega arith in rw add-one (range-suc 0 n ∙ ap (λ k. range_with_len 0 n ++ k ∷ []) same)

pub map-range-next : {X : Type 0} (f : ℕ → X) (n : ℕ) → map f (range_with_len 0 (n + 1)) ≡ map f (range_with_len 0 n) ++ f n ∷ []
map-range-next f n = ap (map f) (range-next n) ∙ map-append f (range_with_len 0 n) (n ∷ [])

-- one more number, which passes the test or not
pub filter-range-pass : (p : ℕ → Bool) (n : ℕ) → p n ≡ true → filter p (range_with_len 0 (n + 1)) ≡ filter p (range_with_len 0 n) ++ n ∷ []
filter-range-pass p n e = ap (filter p) (range-next n) ∙ filter-append p (range_with_len 0 n) (n ∷ []) ∙ rw e refl

pub filter-range-fail : (p : ℕ → Bool) (n : ℕ) → p n ≡ false → filter p (range_with_len 0 (n + 1)) ≡ filter p (range_with_len 0 n)
filter-range-fail p n e = ap (filter p) (range-next n) ∙ filter-append p (range_with_len 0 n) (n ∷ []) ∙ rw (e, append-nil) refl

pub filter_none : {X : Type 0} (p : X → Bool) (xs : List X) → ((x : X) → p x ≡ false) → filter p xs ≡ []
filter_none p [] h = refl
filter_none p (x ∷ xs) h = rw (h x) (filter_none p xs h)
