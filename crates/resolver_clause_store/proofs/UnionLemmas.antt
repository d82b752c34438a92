-- Inserting each element of a list into a set in insertion order leaves the list without its repeats.
use Rattle.std.proofs.Common.{◌≡◌, ◌∙◌, ℕ, ◌+◌, ◌<◌, Bool, true, false, cond, not, ◌||◌, List, [], ◌∷◌, ◌++◌, length, take, get_or, refl, sym, ap, subst}
use Rattle.std.proofs.Common.{append_assoc, append-nil, ◌≤◌, if◌then◌else◌}
use Rattle.std.specs.Prelude.{filter}
use Rattle.std.specs.List.{flat_map, list_any}
use Rattle.std.proofs.lemmas.Bool.{false≢true}
use Rattle.std.proofs.lemmas.Grind.{flat_map-append}
use Rattle.std.proofs.lemmas.List.Folds.{list_any-append}
use Rattle.std.proofs.lemmas.List.Sums.{fold-append}
use Rattle.indexmap.specs.IndexSet.{insert_key, insert_all}
use Rattle.resolver_clause_store.specs.Candidates.{sorted_candidates}
use Rattle.resolver_clause_store.specs.Laws.{IsIdentity}
use Rattle.resolver_clause_store.specs.Lists.{without_repeats}
use Rattle.resolver_clause_store.specs.Universe.{Universe}
use Rattle.resolver_clause_store.specs.declared.ids.VersionSetId.{VersionSetId}
use Rattle.resolver_clause_store.specs.declared.ids.VersionSetUnionId.{VersionSetUnionId}
use Rattle.std.proofs.lemmas.List.{take_all, take_more}

-- a filter after a filter is a filter by both tests
filter_first : {X : Type 0} (p q r : X → Bool) (x : X) (ys zs : List X) (a b d : Bool) → a ≡ q x → b ≡ p x → cond a b false ≡ d → filter p ys ≡ zs →
    filter p (cond a (x ∷ ys) ys) ≡ cond d (x ∷ zs) zs
filter_first p q r x ys zs true b d first second both rest =
    let here : filter p (x ∷ ys) ≡ cond b (x ∷ filter p ys) (filter p ys) = ap (λ e. cond e (x ∷ filter p ys) (filter p ys)) (sym second) in
    here ∙ ap (λ e. cond e (x ∷ filter p ys) (filter p ys)) both ∙ ap (λ l. cond d (x ∷ l) l) rest
filter_first p q r x ys zs false b d first second both rest = rest ∙ ap (λ e. cond e (x ∷ zs) zs) both

filter_both : {X : Type 0} (p q r : X → Bool) → ((x : X) → cond (q x) (p x) false ≡ r x) → (xs : List X) → filter p (filter q xs) ≡ filter r xs
filter_both p q r agree [] = refl
filter_both p q r agree (x ∷ xs) = filter_first p q r x (filter q xs) (filter r xs) (q x) (p x) (r x) refl refl (agree x) (filter_both p q r agree xs)

module _ {X : Type 0} (same : X → X → Bool) (identity : IsIdentity same) where
  -- the element is not yet in the set
  abbrev is_new : List X → X → Bool
  is_new ks y = not (list_any (same y) ks)

  -- if x is in the set, a new element is not x
  new_is_apart : (ks : List X) (x y : X) (a b : Bool) → list_any (same x) ks ≡ true → a ≡ same y x → b ≡ list_any (same y) ks →
      cond (not a) (not b) false ≡ not b
  new_is_apart ks x y false b there first second = refl
  new_is_apart ks x y true true there first second = refl
  new_is_apart ks x y true false there first second =
      let Found : X → Type 0 = λ z. list_any (same z) ks ≡ true in
      absurd (false≢true (second ∙ subst Found (sym (identity.alone y x (sym first))) there))

  -- a new element after x was added
  new_after : (ks : List X) (x y : X) (a b : Bool) → a ≡ same y x → b ≡ list_any (same y) ks → cond (not a) (not b) false ≡ not (b || (a || false))
  new_after ks x y true true first second = refl
  new_after ks x y true false first second = refl
  new_after ks x y false true first second = refl
  new_after ks x y false false first second = refl

  added : (ks : List X) (x : X) (xs rest : List X) (b : Bool) → b ≡ list_any (same x) ks →
      filter (is_new (if b then ks else (ks ++ x ∷ []))) rest ≡ filter (is_new ks) (filter (λ y. not (same y x)) rest) →
      (if b then ks else (ks ++ x ∷ [])) ++ filter (is_new (if b then ks else (ks ++ x ∷ []))) rest ≡ ks ++
      cond (not b) (x ∷ filter (is_new ks) (filter (λ y. not (same y x)) rest)) (filter (is_new ks) (filter (λ y. not (same y x)) rest))
  added ks x xs rest true is tail = ap (λ l. ks ++ l) tail
  added ks x xs rest false is tail = append_assoc ks (x ∷ []) _ ∙ ap (λ l. ks ++ x ∷ l) tail

  tail_is : (ks : List X) (x : X) (rest : List X) (b : Bool) → b ≡ list_any (same x) ks →
      filter (is_new (if b then ks else (ks ++ x ∷ []))) rest ≡ filter (is_new ks) (filter (λ y. not (same y x)) rest)
  tail_is ks x rest true is = sym
      (filter_both (is_new ks) (λ y. not (same y x)) (is_new ks) (λ y. new_is_apart ks x y (same y x) (list_any (same y) ks) (sym is) refl refl) rest)
  tail_is ks x rest false is =
      sym (filter_both (is_new ks) (λ y. not (same y x)) (is_new (ks ++ x ∷ [])) (λ y.
      new_after ks x y (same y x) (list_any (same y) ks) refl refl ∙ ap not (sym (list_any-append (same y) ks (x ∷ [])))) rest)

  insert_all_after : (xs ks : List X) → insert_all same ks xs ≡ ks ++ filter (is_new ks) (without_repeats same xs)
  insert_all_after [] ks = sym (append-nil ks)
  insert_all_after (x ∷ xs) ks =
      let rest = without_repeats same xs in
      insert_all_after xs (insert_key same ks x) ∙ added ks x xs rest (list_any (same x) ks) refl (tail_is ks x rest (list_any (same x) ks) refl)

  -- the set is empty at first
  pub insert_all-is : (xs : List X) → insert_all same [] xs ≡ without_repeats same xs
  insert_all-is xs = insert_all_after xs [] ∙ filter_all (without_repeats same xs)
    where
      filter_all : (ys : List X) → filter (λ y. true) ys ≡ ys
      filter_all [] = refl
      filter_all (y ∷ ys) = ap (λ l. y ∷ l) (filter_all ys)

module _ {N S : Type 0} (u : Universe N S) where
  -- the sorted candidates of one more version set
  sorted_more : (vs : List VersionSetId) (i : ℕ) (d : VersionSetId) → i < length vs →
      flat_map (sorted_candidates u) (take (i + 1) vs) ≡ flat_map (sorted_candidates u) (take i vs) ++ sorted_candidates u (get_or vs i d)
  sorted_more vs i d below =
      ap (flat_map (sorted_candidates u)) (take_more vs i d below)
      ∙ flat_map-append (sorted_candidates u) (take i vs) (get_or vs i d ∷ [])
      ∙ ap (λ l. flat_map (sorted_candidates u) (take i vs) ++ l) (append-nil (sorted_candidates u (get_or vs i d)))

  -- the candidates of all version sets up to one more
  pub taken_more : (same : S → S → Bool) (vs : List VersionSetId) (i : ℕ) (d : VersionSetId) (before list after : List S) → i < length vs →
      before ≡ insert_all same [] (flat_map (sorted_candidates u) (take i vs)) → list ≡ sorted_candidates u (get_or vs i d) →
      after ≡ insert_all same before list → after ≡ insert_all same [] (flat_map (sorted_candidates u) (take (i + 1) vs))
  taken_more same vs i d before list after below held is added_all =
      added_all
      ∙ ap (λ ks. insert_all same ks list) held
      ∙ ap (insert_all same (insert_all same [] (flat_map (sorted_candidates u) (take i vs)))) is
      ∙ sym (fold-append (insert_key same) [] (flat_map (sorted_candidates u) (take i vs)) (sorted_candidates u (get_or vs i d)))
      ∙ ap (insert_all same []) (sym (sorted_more vs i d below))

  -- the candidates of all version sets
  pub taken_all : (same : S → S → Bool) → IsIdentity same → u.same_solvable ≡ same →
      (m : VersionSetUnionId) (vs : List VersionSetId) (i : ℕ) (items keys : List S) → length vs ≤ i → vs ≡ u.union_members m →
      items ≡ keys → keys ≡ insert_all same [] (flat_map (sorted_candidates u) (take i vs)) →
      items ≡ without_repeats u.same_solvable (flat_map (sorted_candidates u) (u.union_members m))
  taken_all same identity compares m vs i items keys end members copied held =
      copied
      ∙ held
      ∙ ap (λ ws. insert_all same [] (flat_map (sorted_candidates u) ws)) (take_all i vs end ∙ members)
      ∙ insert_all-is same identity (flat_map (sorted_candidates u) (u.union_members m))
      ∙ ap (λ e. without_repeats e (flat_map (sorted_candidates u) (u.union_members m))) (sym compares)
