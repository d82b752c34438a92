-- The solvable that a variable stands for, and a list of chosen solvables that follows a trail.
use Rattle.std.proofs.Common.{◌≡◌, ℕ, zero, suc, ◌+◌, ◌<◌, ◌≤◌, List, [], ◌∷◌, ◌++◌, length, Option, Some, None, Bool, arith, refl, sym, ap, ◌∙◌, subst, ⊎_elim}
use Rattle.std.proofs.Common.{Contains, take, true, false}
use Rattle.std.specs.Prelude.{slice_get}
use Rattle.std.specs.Option.{option_map, option_map_or, option_to_list}
use Rattle.std.proofs.lemmas.Option.{same_Some, slice_get-get_or, get_or_from_slice_get}
use Rattle.std.proofs.lemmas.List.{length-take-le}
use Rattle.std.proofs.Math.Seq.{take-append_seam}
use Rattle.resolver_clause_store.specs.TrailView.{KeepsPlaces, slot_of, variable_at, variable_count, length_of}
use Rattle.resolver_clause_store.specs.Variables.{AreDistinct, Keeps}
use Rattle.resolver_clause_store.specs.declared.Origin.{Origin}
use Rattle.resolver_clause_store.specs.declared.Origin.TheVariants.{Root, Solvable, Helper}
use Rattle.resolver_clause_store.specs.declared.Slot.{Slot}
use Rattle.resolver_clause_store.specs.declared.Trail.{Trail}
use Rattle.resolver_clause_store.proofs.SlotLemmas.{slot-within}
use Rattle.resolver_encoding.specs.Encodings.{Extends}
use Rattle.resolver_encoding.specs.Trails.{Follows, chosen_in, origin_at, solvable_if, solvables_before, value_of, solvable_found}
use Rattle.resolver_encoding.specs.declared.chosen.Chosen.{Chosen}
use Rattle.resolver_encoding.proofs.Bridge.{below_or, not_before, solvable_of}
use Rattle.resolver_clause_store.proofs.KeptLemmas.{slot_placed}
use Rattle.resolver_clause_store.proofs.ListLemmas.{Contains-here as here, slice_get-append_left as slice_get-earlier, slice_get-last}
use Rattle.resolver_encoding.proofs.EncodingLemmas.{Extends-same, Extends-trans}

-- the solvable that a look-up of a variable's origin found
found_some : {N S : Type 0} (origins : List (Origin N S)) (x : ℕ) (s : S) → solvable_found (slice_get origins x) ≡ Some s →
    solvable_if (origin_at origins x) true ≡ s ∷ []
found_some [] x s e = absurd cc
found_some (Solvable t ∷ os) zero s e = ap (λ y. y ∷ []) (same_Some t s e)
found_some (Root ∷ os) zero s e = absurd cc
found_some (Helper h ∷ os) zero s e = absurd cc
found_some (o ∷ os) (suc x) s e = found_some os x s e

found_none : {N S : Type 0} (origins : List (Origin N S)) (x : ℕ) (b : Bool) → solvable_found (slice_get origins x) ≡ None →
    solvable_if (origin_at origins x) b ≡ []
found_none [] x b e = refl
found_none (Solvable t ∷ os) zero b e = absurd cc
found_none (Root ∷ os) zero b e = refl
found_none (Helper h ∷ os) zero b e = refl
found_none (o ∷ os) (suc x) b e = found_none os x b e

-- the solvable that a true variable stands for
pub found_at : {N S : Type 0} (origins : List (Origin N S)) (x : ℕ) (b : Bool) (o : Option S) → b ≡ true → o ≡ solvable_found (slice_get origins x) →
    option_to_list o ≡ solvable_if (origin_at origins x) b
found_at origins x b None on e = sym (found_none origins x b (sym e))
found_at origins x b (Some s) on e = sym (ap (solvable_if (origin_at origins x)) on ∙ found_some origins x s (sym e))

false_if : {N S : Type 0} (o : Origin N S) → solvable_if o false ≡ []
false_if Root = refl
false_if (Solvable s) = refl
false_if (Helper h) = refl

pub none_at : {N S : Type 0} (o : Origin N S) (b : Bool) → b ≡ false → [] ≡ solvable_if o b
none_at o b e = sym (ap (solvable_if o) e ∙ false_if o)

-- an element that was found
pub found_there : {X : Type 0} (o : Option X) (x : X) → o ≡ Some x → Contains (option_to_list o) x
found_there {X} o x is = let P : Option X → Type 0 = λ p. Contains (option_to_list p) x in subst P (sym is) (here x [])

-- a list at whose end an element was found
pub found_last : {X : Type 0} (xs list : List X) (o : Option X) (x : X) → o ≡ Some x → option_to_list o ≡ list → xs ++ x ∷ [] ≡ xs ++ list
found_last xs list o x is e = ap (λ more. xs ++ more) (sym (ap option_to_list is) ∙ e)

-- elements of the front part of a list
slice_get-take : {X : Type 0} (xs : List X) (n k : ℕ) → k < n → slice_get (take n xs) k ≡ slice_get xs k
slice_get-take xs zero k below = absurd (omega arith)
slice_get-take [] (suc n) k below = refl
slice_get-take (x ∷ xs) (suc n) zero below = refl
slice_get-take (x ∷ xs) (suc n) (suc k) below = slice_get-take xs n k (omega arith)

module _ {N S : Type 0} (origins : List (Origin N S)) (trail : Trail) where
  -- the solvables of more places extend the list
  pub before_extends : (k n : ℕ) → k ≤ n → Extends (solvables_before origins trail k) (solvables_before origins trail n)
  before_extends k zero h = let same : k ≡ zero = omega (arith, h) in
      let P : ℕ → Type 0 = λ j. Extends (solvables_before origins trail j) [] in subst P (sym same) (Extends-same [])
  before_extends k (suc n) h = ⊎_elim
      (λ (less : k < suc n). Extends-trans (solvables_before origins trail k) (solvables_before origins trail n) (solvables_before origins trail (suc n))
      (before_extends k n (omega (arith, less)))
      (record { more = solvable_if (origin_at origins (variable_at trail n)) (value_of trail (variable_at trail n)); is = refl }))
      (λ (same : k ≡ suc n). let P : ℕ → Type 0 = λ j. Extends (solvables_before origins trail j) (solvables_before origins trail (suc n)) in
      subst P (sym same) (Extends-same (solvables_before origins trail (suc n))))
      (below_or (suc n) k h)

  -- the solvable of a place is not in the list before
  pub absent_before : AreDistinct origins → variable_count trail ≡ length origins → (c : Chosen S) (n : ℕ) → n < length_of trail → Follows c origins trail n →
      (s : S) → Contains (solvable_if (origin_at origins (variable_at trail n)) (value_of trail (variable_at trail n))) s → Contains (chosen_in c) s → ⊥
  absent_before distinct size c n below follows s here inside =
      let Among : List S → Type 0 = λ list. Contains list s in
      not_before origins trail distinct size n s below
      (solvable_of origins trail (origin_at origins (variable_at trail n)) (value_of trail (variable_at trail n)) s here) (subst Among follows.is inside)

  -- the count of one more place
  counts_next : (cs : List ℕ) (n : ℕ) → length cs ≡ n → ((k : ℕ) → k < n → slice_get cs k ≡ Some (length (solvables_before origins trail k))) →
      (k : ℕ) → k < suc n → slice_get (cs ++ length (solvables_before origins trail n) ∷ []) k ≡ Some (length (solvables_before origins trail k))
  counts_next cs n size counts k below = ⊎_elim
      (λ (less : k < n). slice_get-earlier cs (length (solvables_before origins trail n) ∷ []) k (omega (arith, less, size)) ∙ counts k less)
      (λ (same : k ≡ n).
      let x : ℕ = length (solvables_before origins trail n) in
      let P : ℕ → Type 0 = λ j. slice_get (cs ++ x ∷ []) k ≡ Some (length (solvables_before origins trail j)) in
      subst P (sym same) (ap (slice_get (cs ++ x ∷ [])) (same ∙ sym size) ∙ slice_get-last cs x))
      (below_or n k (omega (arith, below)))

  length_next : (cs : List ℕ) (x n : ℕ) → length cs ≡ n → length (cs ++ x ∷ []) ≡ suc n
  length_next [] x n e = ap suc e
  length_next (c ∷ cs) x zero e = absurd (omega (arith, e))
  length_next (c ∷ cs) x (suc n) e = ap suc (length_next cs x n (omega (arith, e)))

  pub followed_next : (old new : Chosen S) (n : ℕ) → n < length_of trail → Follows old origins trail n → new.counts.items ≡ old.counts.items ++
      length (chosen_in old) ∷ [] →
      chosen_in new ≡ chosen_in old ++ solvable_if (origin_at origins (variable_at trail n)) (value_of trail (variable_at trail n)) →
      Follows new origins trail (n + 1)
  followed_next old new n below follows counts keys =
      let x : ℕ = length (solvables_before origins trail n) in
      let items : new.counts.items ≡ old.counts.items ++ x ∷ [] = counts ∙ ap (λ list. old.counts.items ++ length list ∷ []) follows.is in
      let next : suc n ≡ n + 1 = omega arith in
      let Next : ℕ → Type 0 = λ j. Follows new origins trail j in
      subst Next next (record {
        size = ap length items ∙ length_next old.counts.items x n follows.size;
        inside = omega (arith, below);
        is = keys ∙ ap (λ list. list ++ solvable_if (origin_at origins (variable_at trail n)) (value_of trail (variable_at trail n))) follows.is;
        counts = λ k less. ap (λ list. slice_get list k) items ∙ counts_next old.counts.items n follows.size follows.counts k less;
      })

  -- fewer places
  pub followed_less : (old new : Chosen S) (n kept count : ℕ) → Follows old origins trail n → kept < n → slice_get old.counts.items kept ≡ Some count →
      chosen_in new ≡ take count (chosen_in old) → new.counts.items ≡ take kept old.counts.items → Follows new origins trail kept
  followed_less old new n kept count follows less at keys counts =
      let first : List S = solvables_before origins trail kept in
      let number : count ≡ length first = same_Some _ _ (sym at ∙ follows.counts kept less) in
      let extends = before_extends kept n (omega (arith, less)) in
      record {
        size = ap length counts ∙ length-take-le kept old.counts.items (omega (arith, less, follows.size));
        inside = omega (arith, less, follows.inside);
        is = keys ∙ ap (λ j. take j (chosen_in old)) number ∙ ap (take (length first)) (follows.is ∙ extends.is) ∙ take-append_seam first extends.more;
        counts = λ k below. ap (λ list. slice_get list k) counts ∙ slice_get-take old.counts.items kept k below ∙ follows.counts k (omega (arith, below, less));
      }

-- the first places of a trail stay, and each variable keeps its origin
module _ {N S : Type 0} (origins more : List (Origin N S)) (old new : Trail) (count : ℕ) (keeps : Keeps origins more)
    (size : variable_count old ≤ length origins) (stay : KeepsPlaces old new count) where
  pub same_origin : (x : ℕ) → x < length origins → origin_at more x ≡ origin_at origins x
  same_origin x below = get_or_from_slice_get more x (origin_at origins x) Root (keeps.kept x (origin_at origins x) (slice_get-get_or origins x Root below))

  same_place : (k : ℕ) → k < count →
      solvable_if (origin_at more (variable_at new k)) (value_of new (variable_at new k)) ≡ solvable_if (origin_at origins (variable_at old k))
      (value_of old (variable_at old k))
  same_place k below =
      let x : ℕ = variable_at old k in
      let slot = slot_placed _ k (old.placed k (omega (arith, below, stay.were))) in
      let inside : x < variable_count old = slot-within _ x slot.0.place (ap (option_map (λ (s : Slot). s.place)) slot.1) in
      let later : slot_of new x ≡ Some slot.0 = stay.slots x slot.0 slot.1 (omega (arith, below, slot.2)) in
      let value : value_of new x ≡ value_of old x = ap (λ o. option_map_or (λ (s : Slot). s.value) o false) (later ∙ sym slot.1) in
      ap (λ y. solvable_if (origin_at more y) (value_of new y)) (stay.variables k below) ∙
      ap (λ o. solvable_if o (value_of new x)) (same_origin x (omega (arith, inside, size))) ∙ ap (solvable_if (origin_at origins x)) value

  pub same_before : (n : ℕ) → n ≤ count → solvables_before more new n ≡ solvables_before origins old n
  same_before zero h = refl
  same_before (suc n) h =
      let earlier = same_before n (omega (arith, h)) in
      ap (λ list. list ++ solvable_if (origin_at more (variable_at new n)) (value_of new (variable_at new n))) earlier ∙
      ap (λ list. solvables_before origins old n ++ list) (same_place n (omega (arith, h)))

  pub follows_still : (c : Chosen S) → Follows c origins old count → Follows c more new count
  follows_still c follows = record {
    size = follows.size;
    inside = stay.are;
    is = follows.is ∙ sym (same_before count (omega arith));
    counts = λ k below. follows.counts k below ∙ ap (λ list. Some (length list)) (sym (same_before k (omega (arith, below))));
  }
