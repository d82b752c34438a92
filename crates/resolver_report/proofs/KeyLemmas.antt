-- Keys with ordered sides are equal exactly if they are alike.
use Rattle.std.proofs.Common.{◌≡◌, ℕ, zero, suc, ◌+◌, ◌<◌, ◌≤◌, Bool, true, false, cond, List, [], ◌∷◌, ◌++◌, length, refl, sym, ◌∙◌, ap, subst, ⊎_elim, arith}
use Rattle.std.proofs.Common.{get_or}
use Rattle.std.specs.Prelude.{◌==◌, ◌&&◌, count_by, filter, nat_eq, Option, Some, None, slice_get, string_bytes}
use Rattle.std.specs.Cmp.{IsTotalOrder}
use Rattle.std.specs.List.{range_with_len}
use Rattle.std.specs.Option.{option_map}
use Rattle.std.specs.Ordering.{is_eq, is_lt, ordering_reverse}
use Rattle.std.specs.declared.cmp.Ordering.{Ordering}
use Rattle.std.specs.declared.cmp.Ordering.TheVariants.{Less, Equal, Greater}
use lib.Pointwise.{pointwise}
use Rattle.std.proofs.lemmas.Bool.{false≢true, true≢false, cases_lt, and_from}
use Rattle.std.proofs.lemmas.List.{get_or_default, length-map}
use Rattle.std.proofs.lemmas.List.Elements.{filter-append}
use Rattle.std.proofs.lemmas.List.FromFn.{length-range_with_len}
use Rattle.std.proofs.lemmas.List.Sorted.{ranks_by, sum_by-IsPermutation}
use Rattle.std.proofs.lemmas.Option.{slice_get-map, slice_get_past, slice_get-get_or, slice_get_within}
use Rattle.resolver_clause_store.specs.Laws.{IsIdentity}
use Rattle.resolver_clause_store.specs.Universe.{Universe}
use Rattle.resolver_clause_store.specs.declared.Requirement.{Requirement}
use Rattle.resolver_report.specs.declared.keys.NodeKey.{NodeKey}
use Rattle.resolver_report.specs.declared.graph.Side.{Side}
use Rattle.resolver_report.specs.Classes.{has_key, places_of_key}
use Rattle.resolver_report.specs.Keys.{AreKeysOf, IsInOrder, IsKeyOf, IsOrderedKey, same_key}
use Rattle.resolver_report.specs.Merging.{same_required, same_side, same_counts, same_texts, Key, are_alike, are_alike_if_there, class_in, key_of, keys}
use Rattle.resolver_clause_store.proofs.SameRequirementLemmas.{same_requirement-same}
use Rattle.resolver_report.specs.Shapes.{Shape}
use Rattle.resolver_report.specs.Listed.{items_if}
use Rattle.resolver_report.specs.Shapes.{places}
use Rattle.resolver_report.proofs.ListLemmas.{range-next, filter_none}
use Rattle.resolver_report.proofs.AlikeLemmas.{agree_counts, counts_agree, itself_number, same_bool, side_alone}
use Rattle.resolver_report.proofs.AlikeLemmas.{texts_pointwise}
use Rattle.resolver_clause_store.proofs.BoolLemmas.{and_left, and_right}
use Rattle.resolver_report.proofs.OrderedLemmas.{sorted_same}

required_itself : (o : Option Requirement) → same_required o o ≡ true
required_itself None = refl
required_itself (Some r) = same_requirement-same r

side_itself : (a : Side) → same_side a a ≡ true
side_itself a = and_from (same_required a.required a.required) (a.other.0 == a.other.0) (required_itself a.required) (itself_number a.other.0)

same_side_is_identity : IsIdentity same_side
same_side_is_identity = record { alone = side_alone; itself = side_itself }

sides_itself : (xs : List Side) → pointwise same_side xs xs ≡ true
sides_itself [] = refl
sides_itself (x ∷ xs) = and_from (same_side x x) (pointwise same_side xs xs) (side_itself x) (sides_itself xs)

sides_alone : (xs ys : List Side) → pointwise same_side xs ys ≡ true → xs ≡ ys
sides_alone [] [] e = refl
sides_alone [] (y ∷ ys) e = absurd (false≢true e)
sides_alone (x ∷ xs) [] e = absurd (false≢true e)
sides_alone (x ∷ xs) (y ∷ ys) e =
    let first : x ≡ y = side_alone x y (and_left (same_side x y) (pointwise same_side xs ys) e) in
    let rest : xs ≡ ys = sides_alone xs ys (and_right (same_side x y) (pointwise same_side xs ys) e) in
    λ i. first i ∷ rest i

bytes_itself : (a : List ℕ) → pointwise nat_eq a a ≡ true
bytes_itself [] = refl
bytes_itself (x ∷ xs) = and_from (nat_eq x x) (pointwise nat_eq xs xs) (itself_number x) (bytes_itself xs)

regrouped : (a b c : Bool) → (a && (b && c)) ≡ ((a && b) && c)
regrouped true b c = refl
regrouped false b c = refl

not_apart : (o p : Ordering) → o ≡ ordering_reverse p → is_lt o ≡ false → is_lt p ≡ false → o ≡ Equal
not_apart Less p e f h = absurd (true≢false f)
not_apart Equal p e f h = refl
not_apart Greater Less e f h = absurd (true≢false h)
not_apart Greater Equal e f h = absurd cc
not_apart Greater Greater e f h = absurd cc

module _ (cmp : Side → Side → Ordering) (total : IsTotalOrder cmp) (matches : (x y : Side) → same_side x y ≡ is_eq (cmp x y)) where
  tie : (x y : Side) → is_lt (cmp x y) ≡ false → is_lt (cmp y x) ≡ false → x ≡ y
  tie x y up down = side_alone x y (matches x y ∙ ap is_eq (not_apart (cmp x y) (cmp y x) (total.antisymm x y) up down))

  -- an ordered list has the same counts as the list
  count_in_order : (xs ordered : List Side) → IsInOrder cmp xs ordered → (z : Side) → count_by (same_side z) ordered ≡ count_by (same_side z) xs
  count_in_order xs ordered h z = sum_by-IsPermutation (λ y. cond (same_side z y) 1 0) xs ordered h.permutes

  sides_alike : (xs ys first second : List Side) → IsInOrder cmp xs first → IsInOrder cmp ys second →
      pointwise same_side second first ≡ same_counts same_side xs ys
  sides_alike xs ys first second h k = same_bool (pointwise same_side second first) (same_counts same_side xs ys) to_counts from_counts
    where
      to_counts : pointwise same_side second first ≡ true → same_counts same_side xs ys ≡ true
      to_counts e =
          let are : second ≡ first = sides_alone second first e in
          agree_counts same_side side_alone xs ys (λ z.
          sym (count_in_order xs first h z) ∙ ap (count_by (same_side z)) (sym are) ∙ count_in_order ys second k z)

      from_counts : same_counts same_side xs ys ≡ true → pointwise same_side second first ≡ true
      from_counts e =
          let are : second ≡ first = sorted_same same_side same_side_is_identity (λ x y. is_lt (cmp x y))
          (ranks_by total (λ x. x)) tie second first k.sorted h.sorted
          (λ z. count_in_order ys second k z ∙ sym (counts_agree same_side side_alone xs ys e z) ∙ sym (count_in_order xs first h z)) in
          let Alike : List Side → Type 0 = λ list. pointwise same_side list first ≡ true in
          subst Alike (sym are) (sides_itself first)

  names_alike : (a b : List ℕ) → pointwise nat_eq b a ≡ pointwise nat_eq a b
  names_alike a b = same_bool (pointwise nat_eq b a) (pointwise nat_eq a b) (λ e. turned b a (texts_pointwise b a e)) (λ e. turned a b (texts_pointwise a b e))
    where
      turned : (x y : List ℕ) → x ≡ y → pointwise nat_eq y x ≡ true
      turned x y e = let Same : List ℕ → Type 0 = λ list. pointwise nat_eq list x ≡ true in subst Same e (bytes_itself x)

  keys_alike : (k l : Key) (a b : NodeKey) → IsOrderedKey cmp k a → IsOrderedKey cmp l b → same_key b a ≡ are_alike k l
  keys_alike k l a b h j =
      let names : pointwise nat_eq (string_bytes b.name) (string_bytes a.name) ≡ same_texts k.name l.name =
      names_alike (string_bytes a.name) (string_bytes b.name) ∙ (λ i. same_texts (sym h.name i) (sym j.name i)) in
      let ins : pointwise same_side b.sides_in.items a.sides_in.items ≡ same_counts same_side k.sides_in l.sides_in =
      sides_alike k.sides_in l.sides_in a.sides_in.items b.sides_in.items h.sides_in j.sides_in in
      let outs : pointwise same_side b.sides_out.items a.sides_out.items ≡ same_counts same_side k.sides_out l.sides_out =
      sides_alike k.sides_out l.sides_out a.sides_out.items b.sides_out.items h.sides_out j.sides_out in
      (λ i. names i && (ins i && outs i)) ∙
      regrouped (same_texts k.name l.name) (same_counts same_side k.sides_in l.sides_in) (same_counts same_side k.sides_out l.sides_out)

  no_text : (o p : Option (List ℕ)) → p ≡ None → same_texts o p ≡ false
  no_text None p e = refl
  no_text (Some a) None e = refl
  no_text (Some a) (Some b) e = absurd cc

  nothing_alike : (a b c : Bool) → a ≡ false → ((a && b) && c) ≡ false
  nothing_alike true b c e = absurd (true≢false e)
  nothing_alike false b c e = refl

  one_alike : (k l : Key) (a : NodeKey) (o : Option NodeKey) → IsOrderedKey cmp k a → IsKeyOf cmp l o → has_key a (Some o) ≡ are_alike k l
  one_alike k l a (Some b) h j = keys_alike k l a b h j
  one_alike k l a None h e = sym
      (nothing_alike (same_texts k.name l.name) (same_counts same_side k.sides_in l.sides_in) (same_counts same_side k.sides_out l.sides_out)
      (no_text k.name l.name e))

  -- The keys of all nodes.
  module _ (ks : List Key) (os : List (Option NodeKey)) (are : AreKeysOf cmp ks os) where
    at_place : (k : Key) (a : NodeKey) → IsOrderedKey cmp k a → (m : ℕ) → has_key a (slice_get os m) ≡ are_alike_if_there (Some k) (slice_get ks m)
    at_place k a h m = ⊎_elim (λ (lt : m < length ks). inside lt) (λ (le : length ks ≤ m). outside le) (cases_lt m (length ks))
      where
        inside : m < length ks → has_key a (slice_get os m) ≡ are_alike_if_there (Some k) (slice_get ks m)
        inside lt =
            let l : Key = get_or ks m k in
            let there : slice_get ks m ≡ Some l = slice_get-get_or ks m k lt in
            let code : slice_get os m ≡ Some (get_or os m None) = slice_get-get_or os m None (omega (arith, lt, are.long)) in
            ap (has_key a) code ∙ one_alike k l a (get_or os m None) h (are.each m l there) ∙ ap (are_alike_if_there (Some k)) (sym there)

        outside : length ks ≤ m → has_key a (slice_get os m) ≡ are_alike_if_there (Some k) (slice_get ks m)
        outside le = ap (has_key a) (slice_get_past os m (omega (arith, le, are.long))) ∙ ap (are_alike_if_there (Some k)) (sym (slice_get_past ks m le))

    key_there : (n : ℕ) → n < length os → slice_get ks n ≡ Some (get_or ks n (record { name = None; sides_in = []; sides_out = [] }))
    key_there n lt = slice_get-get_or ks n (record { name = None; sides_in = []; sides_out = [] }) (omega (arith, lt, are.long))

    -- the places with the key of a node are its class
    pub class_of_key : (n : ℕ) (o : Option NodeKey) (a : NodeKey) → n < length os → o ≡ get_or os n o → o ≡ Some a →
        places_of_key os (length os) a ≡ class_in ks n
    class_of_key n o a lt at some =
        let is : Some a ≡ get_or os n None = sym some ∙ at ∙ get_or_default os n o None lt in
        let k : Key = get_or ks n (record { name = None; sides_in = []; sides_out = [] }) in
        let there : slice_get ks n ≡ Some k = key_there n lt in
        let Is : Option NodeKey → Type 0 = λ o. IsKeyOf cmp k o in
        let ordered : IsOrderedKey cmp k a = subst Is (sym is) (are.each n k there) in
        λ i. filter (λ m. (at_place k a ordered m ∙ ap (λ o. are_alike_if_there o (slice_get ks m)) (sym there)) i) (range_with_len 0 (are.long i))

    -- a node without a key has an empty class
    pub class_of_none : (n : ℕ) (o : Option NodeKey) → n < length os → o ≡ get_or os n o → o ≡ None → [] ≡ class_in ks n
    class_of_none n o lt at none =
        let is : None ≡ get_or os n None = sym none ∙ at ∙ get_or_default os n o None lt in
        let k : Key = get_or ks n (record { name = None; sides_in = []; sides_out = [] }) in
        let there : slice_get ks n ≡ Some k = key_there n lt in
        let Is : Option NodeKey → Type 0 = λ o. IsKeyOf cmp k o in
        let nameless : k.name ≡ None = subst Is (sym is) (are.each n k there) in
        sym (filter_none (λ m. are_alike_if_there (slice_get ks n) (slice_get ks m)) (range_with_len 0 (length ks)) (λ m.
        ap (λ o. are_alike_if_there o (slice_get ks m)) there ∙ alone (slice_get ks m) k nameless))
      where
        first_none : (o p : Option (List ℕ)) → o ≡ None → same_texts o p ≡ false
        first_none None p e = refl
        first_none (Some a) p e = absurd cc

        alone : (o : Option Key) (k : Key) → k.name ≡ None → are_alike_if_there (Some k) o ≡ false
        alone None k e = refl
        alone (Some l) k e = nothing_alike (same_texts k.name l.name) (same_counts same_side k.sides_in l.sides_in)
            (same_counts same_side k.sides_out l.sides_out) (first_none k.name l.name e)

-- one more place
pub places_next : (os : List (Option NodeKey)) (n : ℕ) (o : Option NodeKey) (q : NodeKey) → n < length os → o ≡ get_or os n o → places_of_key os n q ++
    items_if (has_key q (Some o)) (n ∷ []) ≡ places_of_key os (n + 1) q
places_next os n o q lt at =
    let p : ℕ → Bool = λ m. has_key q (slice_get os m) in
    let there : slice_get os n ≡ Some o = slice_get-get_or os n o lt ∙ ap Some (sym at) in
    ap (λ b. places_of_key os n q ++ items_if b (n ∷ [])) (ap (has_key q) (sym there)) ∙
    sym (ap (filter p) (range-next n) ∙ filter-append p (range_with_len 0 n) (n ∷ []))

slice_get-range : (a n k : ℕ) → k < n → slice_get (range_with_len a n) k ≡ Some (a + k)
slice_get-range a zero k h = absurd (omega (arith, h))
slice_get-range a (suc n) zero h = let same : a ≡ a + 0 = omega arith in ap Some same
slice_get-range a (suc n) (suc k) h = let same : (a + 1) + k ≡ a + suc k = omega arith in slice_get-range (a + 1) n k (omega (arith, h)) ∙ ap Some same

-- the keys of all nodes
pub keys_told : {N S : Type 0} (cmp : Side → Side → Ordering) (u : Universe N S) (g : Shape S) (os : List (Option NodeKey)) → length os ≡ length g.nodes →
    ((n : ℕ) → n < length g.nodes → IsKeyOf cmp (key_of u g n) (get_or os n None)) → AreKeysOf cmp (keys u g) os
keys_told cmp u g os long each = record { long = long ∙ sym size; each = told }
  where
    size : length (keys u g) ≡ length g.nodes
    size = length-map (places g) (key_of u g) ∙ length-range_with_len 0 (length g.nodes)

    told : (n : ℕ) (k : Key) → slice_get (keys u g) n ≡ Some k → IsKeyOf cmp k (get_or os n None)
    told n k e =
        let lt : n < length g.nodes = omega (arith, slice_get_within (keys u g) n k e, size) in
        let zero_more : 0 + n ≡ n = omega arith in
        let there : slice_get (keys u g) n ≡ Some (key_of u g n) = slice_get-map (key_of u g) (places g) n ∙
        ap (option_map (key_of u g)) (slice_get-range 0 (length g.nodes) n lt ∙ ap Some zero_more) in
        let some : Some (key_of u g n) ≡ Some k = sym there ∙ e in
        let is : key_of u g n ≡ k = cc in
        let Is : Key → Type 0 = λ l. IsKeyOf cmp l (get_or os n None) in
        subst Is is (each n lt)
