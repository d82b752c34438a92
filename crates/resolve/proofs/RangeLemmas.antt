-- The candidates that a range takes, and the others.
use Rattle.std.proofs.Common.{◌≡◌, ℕ, ◌+◌, ◌<◌, Bool, true, false, cond, not, List, [], ◌∷◌, ◌++◌, filter, get_or, length, take, sym, ◌∙◌}
use mathlib.Core.Bool.{beq}
use Rattle.std.proofs.lemmas.List.{append-nil}
use Rattle.std.proofs.lemmas.List.Elements.{filter_more}

-- the others are wanted if `inverse` is set
pub differs : (taken inverse wanted : Bool) → not (beq taken inverse) ≡ wanted → cond inverse (not taken) taken ≡ wanted
differs true true wanted is = is
differs true false wanted is = is
differs false true wanted is = is
differs false false wanted is = is

-- one more candidate is kept
pub sift_kept : {X : Type 0} (p q : X → Bool) (inverse : Bool) (xs : List X) (i : ℕ) (d : X) (old new : List X) → i < length xs →
    cond inverse (p (get_or xs i d)) (q (get_or xs i d)) ≡ true → old ≡ cond inverse (filter p (take i xs)) (filter q (take i xs)) →
    new ≡ old ++ get_or xs i d ∷ [] → new ≡ cond inverse (filter p (take (i + 1) xs)) (filter q (take (i + 1) xs))
sift_kept p q true xs i d old new within takes so_far made = made ∙ (λ j. so_far j ++ get_or xs i d ∷ []) ∙
    sym (filter_more p xs i d within ∙ (λ j. filter p (take i xs) ++ cond (takes j) (get_or xs i d ∷ []) []))
sift_kept p q false xs i d old new within takes so_far made = made ∙ (λ j. so_far j ++ get_or xs i d ∷ []) ∙
    sym (filter_more q xs i d within ∙ (λ j. filter q (take i xs) ++ cond (takes j) (get_or xs i d ∷ []) []))

-- one more candidate is left out
pub sift_left : {X : Type 0} (p q : X → Bool) (inverse : Bool) (xs : List X) (i : ℕ) (d : X) (old new : List X) → i < length xs →
    cond inverse (p (get_or xs i d)) (q (get_or xs i d)) ≡ false → old ≡ cond inverse (filter p (take i xs)) (filter q (take i xs)) →
    new ≡ old → new ≡ cond inverse (filter p (take (i + 1) xs)) (filter q (take (i + 1) xs))
sift_left p q true xs i d old new within takes so_far made = made ∙ so_far ∙ sym (filter_more p xs i d within ∙
    (λ j. filter p (take i xs) ++ cond (takes j) (get_or xs i d ∷ []) []) ∙ append-nil (filter p (take i xs)))
sift_left p q false xs i d old new within takes so_far made = made ∙ so_far ∙ sym (filter_more q xs i d within ∙
    (λ j. filter q (take i xs) ++ cond (takes j) (get_or xs i d ∷ []) []) ∙ append-nil (filter q (take i xs)))
