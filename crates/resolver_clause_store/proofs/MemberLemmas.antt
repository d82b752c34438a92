-- The results of searches through the members of a set.
use Rattle.std.proofs.Common.{◌≡◌, Bool, true, false, List, [], ◌∷◌, ◌++◌, Contains, refl, sym, ◌∙◌, ap, MatchBool, true≢false}
use Rattle.std.specs.Cmp.{IsEquivalence}
use Rattle.std.specs.List.{list_any}
use Rattle.std.specs.Prelude.{ℕ, ◌<◌, Some, None, if◌then◌else◌, length, slice_get, position}
use Rattle.std.specs.List.{position_or_len}
use Rattle.std.proofs.Common.{get_or, cond, subst, arith}
use Rattle.std.proofs.lemmas.Option.{same_Some}
use Rattle.std.proofs.lemmas.List.Sums.{passes_at_first}
use Rattle.std.proofs.lemmas.Option.{slice_get-get_or}
use Rattle.std.proofs.lemmas.Map.Views.{list_any-from_Contains, Contains-from_any}
use Rattle.resolver_clause_store.specs.Laws.{IsIdentity}

some_under : (b : Bool) (n i : ℕ) → cond b (Some n) None ≡ Some i → n ≡ i
some_under true n i e = same_Some n i e
some_under false n i e = absurd cc

-- the first element that passes is x if only x passes
pub first_stands : {T : Type 0} (test : T → Bool) (x : T) → ((y : T) → test y ≡ true → x ≡ y) → (xs : List T) (i : ℕ) → i < length xs →
    Some i ≡ position test xs → slice_get xs i ≡ Some x
first_stands test x alone xs i below found =
    let place : position_or_len test xs ≡ i = some_under _ (position_or_len test xs) i (sym found) in
    let Passes : ℕ → Type 0 = λ k. test (get_or xs k x) ≡ true in
    let passes : test (get_or xs i x) ≡ true = subst Passes place (passes_at_first test xs x (omega (arith, place))) in
    slice_get-get_or xs i x below ∙ ap Some (sym (alone (get_or xs i x) passes))

module _ {T : Type 0} {eq : T → T → Bool} (same : IsIdentity eq) (laws : IsEquivalence eq) where
  -- the search finds just the members
  pub list_any-member : (ks : List T) (q : T) (b : Bool) → b ≡ list_any (eq q) ks → MatchBool b (Contains ks q) (Contains ks q → ⊥)
  list_any-member ks q true e = Contains-from_any same.alone q ks (sym e)
  list_any-member ks q false e = λ h. true≢false (sym (list_any-from_Contains laws q ks h) ∙ sym e)

  list_any-absent : (ks : List T) (q : T) (b : Bool) → b ≡ list_any (eq q) ks → (Contains ks q → ⊥) → b ≡ false
  list_any-absent ks q true e none = absurd (none (Contains-from_any same.alone q ks (sym e)))
  list_any-absent ks q false e none = refl

  -- an element that is no member yet is added at the end
  pub inserted_last : (ks new : List T) (q : T) → new ≡ (if list_any (eq q) ks then ks else ks ++ q ∷ []) → (Contains ks q → ⊥) → new ≡ ks ++ q ∷ []
  inserted_last ks new q inserted none = inserted ∙ ap (λ b. if b then ks else ks ++ q ∷ []) (list_any-absent ks q _ refl none)

  -- if nothing was found, the element is no member
  pub absent_unless : (ks : List T) (q : T) (found : Bool) → found ≡ list_any (eq q) ks → found ≡ false → Contains ks q → ⊥
  absent_unless ks q found e none inside = true≢false (sym (list_any-from_Contains laws q ks inside) ∙ sym e ∙ none)
