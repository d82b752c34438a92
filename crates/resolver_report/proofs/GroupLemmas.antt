-- The first node of a group.
use Rattle.std.proofs.Common.{◌≡◌, ◌⊎◌, ℕ, zero, suc, ◌+◌, ◌<◌, ◌≤◌, Bool, true, false, List, [], ◌∷◌, length, map, refl, sym, ◌∙◌, ap, subst, inl, inr}
use Rattle.std.proofs.Common.{arith, get_or}
use Rattle.std.specs.Prelude.{Option, Some, None, IsNone, MatchOption, slice_get}
use Rattle.std.specs.List.{filter_map, range_with_len}
use Rattle.std.specs.Option.{is_some, option_map}
use Rattle.std.proofs.lemmas.Bool.{true≢false, false≢true, cases_lt}
use Rattle.resolver_clause_store.specs.Laws.{IsIdentity}
use Rattle.resolver_clause_store.specs.Lists.{HasNoRepeats}
use Rattle.resolver_clause_store.specs.Universe.{Universe}
use Rattle.resolver_report.specs.declared.graph.ConflictNode.{ConflictNode}
use Rattle.resolver_report.specs.declared.graph.ConflictNode.TheVariants.{Root, Solvable, UnresolvedDependency, Excluded}
use Rattle.resolver_report.specs.Graphs.{place_in}
use Rattle.resolver_report.specs.Merging.{Key, are_alike_if_there, class_in, first_of_two, group_in, key_of, keys, same_texts, solvables_at}
use Rattle.resolver_report.specs.Same.{same_node}
use Rattle.resolver_report.specs.Shapes.{Shape, as_solvable, solvable_at}
use Rattle.resolver_report.specs.Simplified.{Group, IsGroupOf}
use Rattle.resolver_report.specs.Outlines.{known_group, group_of_node}
use Rattle.std.proofs.lemmas.List.Sums.{position_or_len_is}
use Rattle.resolver_report.proofs.AlikeLemmas.{first_passes}
use Rattle.resolver_clause_store.proofs.ListLemmas.{slice_get-inside as below}
use Rattle.resolver_report.proofs.GraphLemmas.{same_node_is_identity}
use Rattle.std.proofs.lemmas.Option.{get_or_from_slice_get}
use Rattle.resolver_report.proofs.ListLemmas.{filter_none}

-- the value of a function for the number at a place
made_at : {X : Type 0} (f : ℕ → X) (a count n : ℕ) → (slice_get (map f (range_with_len a count)) n ≡ None) ⊎
    (slice_get (map f (range_with_len a count)) n ≡ Some (f (a + n)))
made_at f a zero n = inl refl
made_at f a (suc count) zero = let same : a + 0 ≡ a = omega arith in inr (ap (λ k. Some (f k)) (sym same))
made_at f a (suc count) (suc n) = let same : (a + 1) + n ≡ a + suc n = omega arith in rw same at (made_at f (a + 1) count n)

made_within : {X : Type 0} (f : ℕ → X) (a count n : ℕ) → n < count → slice_get (map f (range_with_len a count)) n ≡ Some (f (a + n))
made_within f a zero n lt = absurd (omega (arith, lt))
made_within f a (suc count) zero lt = let same : a + 0 ≡ a = omega arith in ap (λ k. Some (f k)) (sym same)
made_within f a (suc count) (suc n) lt = let same : (a + 1) + n ≡ a + suc n = omega arith in rw same at (made_within f (a + 1) count n (omega (arith, lt)))

nameless_left : (k l : Option Key) → ((key : Key) → k ≡ Some key → key.name ≡ None) → are_alike_if_there k l ≡ false
nameless_left None l h = refl
nameless_left (Some k) None h = refl
nameless_left (Some k) (Some l) h = rw (h k refl) refl

nameless_text : (a : Option (List ℕ)) → same_texts a None ≡ false
nameless_text None = refl
nameless_text (Some a) = refl

nameless_right : (k l : Option Key) → ((key : Key) → l ≡ Some key → key.name ≡ None) → are_alike_if_there k l ≡ false
nameless_right None l h = refl
nameless_right (Some k) None h = refl
nameless_right (Some k) (Some l) h = rw (h l refl, nameless_text k.name) refl

-- the place of a solvable's node
place_is : {S : Type 0} (same : S → S → Bool) → IsIdentity same → (ms : List (ConflictNode S)) → HasNoRepeats ms → (k : ℕ) (s : S) →
    slice_get ms k ≡ Some (Solvable s) → place_in same ms (Solvable s) ≡ k
place_is {S} same identity ms once k s e =
    position_or_len_is (λ m. same_node same m (Solvable s)) ms k Root (omega (arith, lt)) (λ j h.
    apart j h (same_node same (get_or ms j Root) (Solvable s)) refl) (λ h. rw (get_or_from_slice_get ms k (Solvable s) Root e) (identity.itself s))
  where
    lt : k < length ms
    lt = below ms k (Solvable s) e

    apart : (j : ℕ) → j < k → (b : Bool) → same_node same (get_or ms j Root) (Solvable s) ≡ b → same_node same (get_or ms j Root) (Solvable s) ≡ false
    apart j h true f = absurd (once j k Root h lt
        ((same_node_is_identity same identity).alone (get_or ms j Root) (Solvable s) f ∙ sym (get_or_from_slice_get ms k (Solvable s) Root e)))
    apart j h false f = f

not_empty : {X : Type 0} (x : X) (xs : List X) → length (x ∷ xs) ≡ 0 → ⊥
not_empty x xs h = omega (arith, h)

-- the result of one search, by the result of another
pub match_found : {X R : Type 0} (r : Option R) (value : R → X) (o : Option X) (A : Type 0) (P : X → Type 0) →
    MatchOption r (o ≡ None) (λ x. o ≡ Some (value x)) → MatchOption o A P → MatchOption r A (λ x. P (value x))
match_found {X} {R} None value o A P e m = let M : Option X → Type 0 = λ p. MatchOption p A P in subst M e m
match_found {X} {R} (Some x) value o A P e m = let M : Option X → Type 0 = λ p. MatchOption p A P in subst M e m

pub is_none : {X : Type 0} (o : Option X) → o ≡ None → IsNone o
is_none o e = ap is_some e

module _ {N S : Type 0} (u : Universe N S) (g : Shape S) where
  -- the key of a node that is no solvable has no name
  nameless : (n : ℕ) → solvable_at g n ≡ None → (key : Key) → slice_get (keys u g) n ≡ Some key → key.name ≡ None
  nameless n none key e = at_key (made_at (key_of u g) 0 (length g.nodes) n)
    where
      at_key : (slice_get (keys u g) n ≡ None) ⊎ (slice_get (keys u g) n ≡ Some (key_of u g (0 + n))) → key.name ≡ None
      at_key (inl f) = let clash : None ≡ Some key = sym f ∙ e in absurd cc
      at_key (inr f) =
          let zeros : 0 + n ≡ n = omega arith in
          let both : Some key ≡ Some (key_of u g n) = sym e ∙ f ∙ ap (λ k. Some (key_of u g k)) zeros in
          let is : key ≡ key_of u g n = cc in
          ap (λ k. k.name) is ∙ ap (option_map (λ s. u.name_text (u.name s))) none

  -- a node that is no solvable has no group
  pub no_group : (n : ℕ) → solvable_at g n ≡ None → group_in (keys u g) n ≡ None
  no_group n none = ap first_of_two
      (filter_none (λ m. are_alike_if_there (slice_get (keys u g) n) (slice_get (keys u g) m)) (range_with_len 0 (length (keys u g))) (λ m.
      nameless_left (slice_get (keys u g) n) (slice_get (keys u g) m) (nameless n none)))

  -- the first node of a group is the node of its first solvable
  pub record HasFirst (n : ℕ) (ids : List S) : Type 0 where
    pub place : ℕ
    pub solvable : S
    pub rest : List S
    pub group : group_in (keys u g) n ≡ Some place
    pub at_place : solvable_at g place ≡ Some solvable
    pub ids_are : ids ≡ solvable ∷ rest

  several_have : (n : ℕ) (ids : List S) (class : List ℕ) → class_in (keys u g) n ≡ class → is_some (first_of_two class) ≡ true → ids ≡ solvables_at g class →
      HasFirst n ids
  several_have n ids [] e h f = absurd (false≢true h)
  several_have n ids (m ∷ []) e h f = absurd (false≢true h)
  several_have n ids (m ∷ k ∷ ms) e h f = at_solvable (solvable_at g m) refl
    where
      first : group_in (keys u g) n ≡ Some m
      first = ap first_of_two e

      passes : are_alike_if_there (slice_get (keys u g) n) (slice_get (keys u g) m) ≡ true
      passes = first_passes (λ j. are_alike_if_there (slice_get (keys u g) n) (slice_get (keys u g) j)) (range_with_len 0 (length (keys u g))) m first

      at_solvable : (o : Option S) → solvable_at g m ≡ o → HasFirst n ids
      at_solvable None none = absurd (true≢false (sym passes ∙ nameless_right (slice_get (keys u g) n) (slice_get (keys u g) m) (nameless m none)))
      at_solvable (Some s) some = record {
        place = m;
        solvable = s;
        rest = filter_map (solvable_at g) (k ∷ ms);
        group = first;
        at_place = some;
        ids_are = f ∙
            rw some refl;
      }

  pub has_first : (n : ℕ) (group : Group S) → IsGroupOf (keys u g) g n group → HasFirst n group.value.ids.items
  has_first n group is = several_have n group.value.ids.items (class_in (keys u g) n) refl is.several is.ids

  -- the group of a node, found by the place of its first solvable
  pub found_first : (same : S → S → Bool) → IsIdentity same → HasNoRepeats g.nodes → (n : ℕ) (group : Group S) (s : S) → IsGroupOf (keys u g) g n group →
      s ≡ get_or group.value.ids.items 0 s → Some (place_in same g.nodes (Solvable s)) ≡ group_in (keys u g) n
  found_first same identity once n group s is e =
      let first = has_first n group is in
      let value : first.solvable ≡ s = sym (e ∙ ap (λ xs. get_or xs 0 s) first.ids_are) in
      let at_node : slice_get g.nodes first.place ≡ Some (Solvable s) = node_of (slice_get g.nodes first.place) s (first.at_place ∙ ap Some value) in
      ap Some (place_is same identity g.nodes once first.place s at_node) ∙ sym first.group
    where
      node_of : (o : Option (ConflictNode S)) (t : S) → as_solvable o ≡ Some t → o ≡ Some (Solvable t)
      node_of (Some (Solvable r)) t f = cc
      node_of (Some Root) t f = absurd cc
      node_of (Some UnresolvedDependency) t f = absurd cc
      node_of (Some (Excluded r)) t f = absurd cc
      node_of None t f = absurd cc

  pub some_first : (n : ℕ) (group : Group S) → IsGroupOf (keys u g) g n group → length group.value.ids.items ≡ 0 → ⊥
  some_first n group is e =
      let first = has_first n group is in
      not_empty first.solvable first.rest (sym (ap length first.ids_are) ∙ e)

  -- the groups of all nodes
  pub made_groups : (made : List (Option ℕ)) (count : ℕ) → made ≡ map (group_in (keys u g)) (range_with_len 0 count) → length g.nodes ≤ count → (n : ℕ) →
      group_of_node made n ≡ group_in (keys u g) n
  made_groups made count are long n = ap (λ xs. group_of_node xs n) are ∙ at_made (made_at (group_in (keys u g)) 0 count n)
    where
      none_beyond : slice_get (map (group_in (keys u g)) (range_with_len 0 count)) n ≡ None → solvable_at g n ≡ None
      none_beyond e = beyond g.nodes n (at_length (cases_lt n (length g.nodes)))
        where
          at_length : (n < length g.nodes) ⊎ (length g.nodes ≤ n) → length g.nodes ≤ n
          at_length (inl lt) =
              let there : slice_get (map (group_in (keys u g)) (range_with_len 0 count)) n ≡ Some (group_in (keys u g) (0 + n)) =
              made_within (group_in (keys u g)) 0 count n (omega (arith, lt, long)) in
              let clash : None ≡ Some (group_in (keys u g) (0 + n)) = sym e ∙ there in
              absurd cc
          at_length (inr le) = le

          beyond : (nodes : List (ConflictNode S)) (k : ℕ) → length nodes ≤ k → as_solvable (slice_get nodes k) ≡ None
          beyond [] k h = refl
          beyond (m ∷ ms) zero h = absurd (omega (arith, h))
          beyond (m ∷ ms) (suc k) h = beyond ms k (omega (arith, h))

      at_made : (slice_get (map (group_in (keys u g)) (range_with_len 0 count)) n ≡ None) ⊎
          (slice_get (map (group_in (keys u g)) (range_with_len 0 count)) n ≡ Some (group_in (keys u g) (0 + n))) →
          known_group (slice_get (map (group_in (keys u g)) (range_with_len 0 count)) n) ≡ group_in (keys u g) n
      at_made (inl e) = ap known_group e ∙ sym (no_group n (none_beyond e))
      at_made (inr e) = let zeros : 0 + n ≡ n = omega arith in ap known_group e ∙ ap (group_in (keys u g)) zeros
