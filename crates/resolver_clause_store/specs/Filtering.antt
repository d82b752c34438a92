-- A filter by a test on each element splits a list.
use Rattle.std.proofs.Common.{◌≡◌, Bool, true, false, cond, not, List, [], ◌∷◌}
use Rattle.std.specs.Prelude.{filter}
use Rattle.std.proofs.lemmas.List.Elements.{All-contains, filter_passes}
use Rattle.std.proofs.lemmas.Bool.{false≢true}
use Rattle.resolver_clause_store.specs.Lists.{IsInterleaving, interleave_none, interleave_left, interleave_right, Splits}

IsInterleaving-filter : {X : Type 0} (p : X → Bool) (xs : List X) → IsInterleaving xs (filter p xs) (filter (λ x. not (p x)) xs)
IsInterleaving-filter p [] = interleave_none
IsInterleaving-filter p (x ∷ xs) =
    elim (p x) as (λ b. IsInterleaving (x ∷ xs) (cond b (x ∷ filter p xs) (filter p xs))
    (cond (not b) (x ∷ filter (λ y. not (p y)) xs) (filter (λ y. not (p y)) xs)))
    [ true ↦ interleave_left (IsInterleaving-filter p xs) | false ↦ interleave_right (IsInterleaving-filter p xs) ]

not_both : (b : Bool) → b ≡ true → not b ≡ true → ⊥
not_both true e f = false≢true f
not_both false e f = false≢true e

pub Splits-filter : {X : Type 0} (p : X → Bool) (xs : List X) → Splits xs (filter p xs) (filter (λ x. not (p x)) xs)
Splits-filter p xs = record {
  cut = IsInterleaving-filter p xs;
  apart = λ x in_one in_other. not_both (p x) (All-contains (λ y. p y ≡ true) (filter p xs) x (filter_passes p xs) in_one)
      (All-contains (λ y. not (p y) ≡ true) (filter (λ y. not (p y)) xs) x (filter_passes (λ y. not (p y)) xs) in_other);
}
