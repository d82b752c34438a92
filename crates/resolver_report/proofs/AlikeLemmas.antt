-- Alike nodes have one class.
use Rattle.std.proofs.Common.{◌≡◌, ◌⊎◌, ℕ, ◌+◌, Bool, true, false, cond, List, [], ◌∷◌, length, refl, sym, ◌∙◌, ap, inl, inr, rules, arith}
use Rattle.std.specs.Prelude.{◌==◌, ◌&&◌, nat_eq, count_by, filter, Option, Some, None, slice_get}
use Rattle.std.specs.List.{list_all, range_with_len}
use Rattle.std.proofs.lemmas.Bool.{false≢true, and_from}
use Rattle.std.proofs.lemmas.List.Sums.{sum_by-cons}
use lib.Pointwise.{pointwise}
use Rattle.resolver_clause_store.specs.declared.Requirement.{Requirement}
use Rattle.resolver_report.specs.declared.graph.Side.{Side}
use Rattle.resolver_clause_store.proofs.SameRequirementLemmas.{same_requirement-true}
use Rattle.resolver_report.specs.Merging.{same_required, same_side, has_count, same_counts, same_texts, Key, are_alike, are_alike_if_there, class_in}
use Rattle.resolver_clause_store.proofs.BoolLemmas.{and_left, and_right}
use Rattle.resolver_report.specs.Merging.{first_of_two}

pub same_bool : (a b : Bool) → (a ≡ true → b ≡ true) → (b ≡ true → a ≡ true) → a ≡ b
same_bool true b f g = sym (f refl)
same_bool false true f g = g refl
same_bool false false f g = refl

pub same_numbers : (m n : ℕ) → (m == n) ≡ true → m ≡ n
same_numbers m n e = search (rules, e)

pub itself_number : (m : ℕ) → (m == m) ≡ true
itself_number m = search rules

required_alone : (a b : Option Requirement) → same_required a b ≡ true → a ≡ b
required_alone (Some r) (Some q) e = ap Some (same_requirement-true r q e)
required_alone None None e = refl
required_alone (Some r) None e = absurd (false≢true e)
required_alone None (Some q) e = absurd (false≢true e)

pub side_alone : (a b : Side) → same_side a b ≡ true → a ≡ b
side_alone a b e =
    let required : a.required ≡ b.required = required_alone a.required b.required (and_left (same_required a.required b.required) (a.other.0 == b.other.0) e) in
    let other : a.other.0 ≡ b.other.0 = same_numbers a.other.0 b.other.0 (and_right (same_required a.required b.required) (a.other.0 == b.other.0) e) in
    λ i. record { required = required i; other = record { 0 = other i } }

-- Counts of elements.
module _ {X : Type 0} (same : X → X → Bool) (alone : (a b : X) → same a b ≡ true → a ≡ b) (xs ys : List X) where
  -- none of these elements is x, or both lists have x the same number of times
  counted : (x : X) (zs : List X) → list_all (has_count same xs ys) zs ≡ true → (count_by (same x) zs ≡ 0) ⊎ (has_count same xs ys x ≡ true)
  counted x [] h = inl refl
  counted x (z ∷ zs) h = rw (sum_by-cons (λ y. cond (same x y) 1 0) z zs)
      (at_test (same x z) refl (counted x zs (and_right (has_count same xs ys z) (list_all (has_count same xs ys) zs) h)))
    where
      at_test : (b : Bool) → same x z ≡ b → (count_by (same x) zs ≡ 0) ⊎ (has_count same xs ys x ≡ true) → (cond b 1 0 + count_by (same x) zs ≡ 0) ⊎
          (has_count same xs ys x ≡ true)
      at_test true e k = inr (ap (has_count same xs ys) (alone x z e) ∙ and_left (has_count same xs ys z) (list_all (has_count same xs ys) zs) h)
      at_test false e (inl k) = inl (omega (arith, k))
      at_test false e (inr k) = inr k

  pub counts_agree : same_counts same xs ys ≡ true → (x : X) → count_by (same x) xs ≡ count_by (same x) ys
  counts_agree h x =
      let here = counted x xs (and_left (list_all (has_count same xs ys) xs) (list_all (has_count same xs ys) ys) h) in
      let there = counted x ys (and_right (list_all (has_count same xs ys) xs) (list_all (has_count same xs ys) ys) h) in
      at_both here there
    where
      at_both : (count_by (same x) xs ≡ 0) ⊎ (has_count same xs ys x ≡ true) → (count_by (same x) ys ≡ 0) ⊎ (has_count same xs ys x ≡ true) →
          count_by (same x) xs ≡ count_by (same x) ys
      at_both (inl e) (inl f) = e ∙ sym f
      at_both (inl e) (inr f) = same_numbers (count_by (same x) xs) (count_by (same x) ys) f
      at_both (inr e) f = same_numbers (count_by (same x) xs) (count_by (same x) ys) e

  all_agree : ((x : X) → count_by (same x) xs ≡ count_by (same x) ys) → (zs : List X) → list_all (has_count same xs ys) zs ≡ true
  all_agree agree [] = refl
  all_agree agree (z ∷ zs) = and_from (has_count same xs ys z) (list_all (has_count same xs ys) zs)
      (ap (λ n. n == count_by (same z) ys) (agree z) ∙ itself_number (count_by (same z) ys)) (all_agree agree zs)

  pub agree_counts : ((x : X) → count_by (same x) xs ≡ count_by (same x) ys) → same_counts same xs ys ≡ true
  agree_counts agree = and_from (list_all (has_count same xs ys) xs) (list_all (has_count same xs ys) ys) (all_agree agree xs) (all_agree agree ys)

-- two lists with the same counts agree on each third list
counts_alike : {X : Type 0} (same : X → X → Bool) (alone : (a b : X) → same a b ≡ true → a ≡ b) (xs ys zs : List X) → same_counts same xs ys ≡ true →
    same_counts same xs zs ≡ same_counts same ys zs
counts_alike same alone xs ys zs h =
    same_bool (same_counts same xs zs) (same_counts same ys zs)
    (λ k. agree_counts same alone ys zs (λ x. sym (counts_agree same alone xs ys h x) ∙ counts_agree same alone xs zs k x))
    (λ k. agree_counts same alone xs zs (λ x. counts_agree same alone xs ys h x ∙ counts_agree same alone ys zs k x))

pub texts_pointwise : (a b : List ℕ) → pointwise nat_eq a b ≡ true → a ≡ b
texts_pointwise [] [] e = refl
texts_pointwise [] (y ∷ ys) e = absurd (false≢true e)
texts_pointwise (x ∷ xs) [] e = absurd (false≢true e)
texts_pointwise (x ∷ xs) (y ∷ ys) e =
    let first : x ≡ y = same_numbers x y (and_left (nat_eq x y) (pointwise nat_eq xs ys) e) in
    let rest : xs ≡ ys = texts_pointwise xs ys (and_right (nat_eq x y) (pointwise nat_eq xs ys) e) in
    λ i. first i ∷ rest i

texts_alone : (a b : Option (List ℕ)) → same_texts a b ≡ true → a ≡ b
texts_alone (Some a) (Some b) e = ap Some (texts_pointwise a b e)
texts_alone None b e = absurd (false≢true e)
texts_alone (Some a) None e = absurd (false≢true e)

-- alike keys are alike to the same keys
keys_alike : (k l z : Key) → are_alike k l ≡ true → are_alike k z ≡ are_alike l z
keys_alike k l z h =
    let texts : Bool = same_texts k.name l.name in
    let ins : Bool = same_counts same_side k.sides_in l.sides_in in
    let outs : Bool = same_counts same_side k.sides_out l.sides_out in
    let name : k.name ≡ l.name = texts_alone k.name l.name (and_left texts ins (and_left (texts && ins) outs h)) in
    let sides_in : same_counts same_side k.sides_in z.sides_in ≡ same_counts same_side l.sides_in z.sides_in =
    counts_alike same_side side_alone k.sides_in l.sides_in z.sides_in (and_right texts ins (and_left (texts && ins) outs h)) in
    let sides_out : same_counts same_side k.sides_out z.sides_out ≡ same_counts same_side l.sides_out z.sides_out =
    counts_alike same_side side_alone k.sides_out l.sides_out z.sides_out (and_right (texts && ins) outs h) in
    λ i. same_texts (name i) z.name && sides_in i && sides_out i

there_alike : (k l z : Option Key) → are_alike_if_there k l ≡ true → are_alike_if_there k z ≡ are_alike_if_there l z
there_alike (Some k) (Some l) (Some z) h = keys_alike k l z h
there_alike (Some k) (Some l) None h = refl
there_alike None l z h = absurd (false≢true h)
there_alike (Some k) None z h = absurd (false≢true h)

-- alike nodes have one class
pub class_alike : (ks : List Key) (n m : ℕ) → are_alike_if_there (slice_get ks n) (slice_get ks m) ≡ true → class_in ks n ≡ class_in ks m
class_alike ks n m h = λ i. filter (λ k. there_alike (slice_get ks n) (slice_get ks m) (slice_get ks k) h i) (range_with_len 0 (length ks))

-- the first of at least two elements that pass a test passes it
pub first_passes : (p : ℕ → Bool) (xs : List ℕ) (m : ℕ) → first_of_two (filter p xs) ≡ Some m → p m ≡ true
first_passes p [] m e = absurd cc
first_passes p (x ∷ xs) m e = at_test (p x) refl e (first_passes p xs m)
  where
    first_is : (ys : List ℕ) → first_of_two (x ∷ ys) ≡ Some m → x ≡ m
    first_is [] f = absurd cc
    first_is (y ∷ ys) f = cc

    at_test : (b : Bool) → p x ≡ b → first_of_two (cond b (x ∷ filter p xs) (filter p xs)) ≡ Some m → (first_of_two (filter p xs) ≡ Some m → p m ≡ true) →
        p m ≡ true
    at_test true f g h = let here : x ≡ m = first_is (filter p xs) g in rw here at f
    at_test false f g h = h g

-- the first of a class has that class
pub class_of_first : (ks : List Key) (n m : ℕ) → first_of_two (class_in ks n) ≡ Some m → class_in ks m ≡ class_in ks n
class_of_first ks n m e = sym (class_alike ks n m (first_passes (λ k. are_alike_if_there (slice_get ks n) (slice_get ks k)) (range_with_len 0 (length ks)) m e))
