-- The graph of a list of rules is well formed: the ends of its edges are among its nodes, and no node stands twice.
use Rattle.std.proofs.Common.{◌≡◌, ◌≢◌, ◌⊎◌, ℕ, zero, suc, ◌-◌, ◌<◌, Bool, true, false, cond, ◌||◌, List, [], ◌∷◌, ◌++◌, length, map, refl, sym, ◌∙◌, ap, subst}
use Rattle.std.proofs.Common.{inl, inr, arith, get_or, take, set}
use Rattle.std.specs.Prelude.{Option, Some, None, IsPermutation}
use Rattle.std.specs.List.{list_any, flat_map, AllByRecursion, swap_remove}
use Rattle.std.proofs.lemmas.Bool.{true≢false, or_right}
use Rattle.std.proofs.lemmas.List.{get_or-take, get_or-set_same, get_or-set_other, get_or_default, length-take, length-set}
use Rattle.std.proofs.lemmas.List.Elements.{All-from_recursion, All-map}
use Rattle.std.proofs.lemmas.List.Sorted.{IsPermutation-swap_remove, list_any-IsPermutation}
use Rattle.resolver_clause_store.specs.Laws.{IsIdentity}
use Rattle.resolver_clause_store.specs.Lists.{HasNoRepeats}
use Rattle.resolver_clause_store.specs.declared.Requirement.{Requirement}
use Rattle.resolver_report.specs.declared.graph.ConflictNode.{ConflictNode}
use Rattle.resolver_report.specs.declared.graph.ConflictNode.TheVariants.{Root, Solvable, UnresolvedDependency, Excluded as Reason}
use Rattle.resolver_report.specs.declared.graph.Link.{Link}
use Rattle.resolver_clause_store.specs.declared.By.{By}
use Rattle.resolver_clause_store.specs.declared.By.TheVariants.{Root as ByRoot, Solvable as BySolvable}
use Rattle.resolver_clause_store.specs.declared.Rule.{Rule}
use Rattle.resolver_clause_store.specs.declared.Rule.TheVariants.{Requires, Constrains, Lock, Excluded, OnePerPackage}
use Rattle.resolver_report.specs.Same.{same_node}
use Rattle.resolver_report.specs.Shapes.{IsShape}
use Rattle.resolver_report.specs.Graphs.{node_by, mentioned, mentions, first_mentions, requirement_link, requirement_links, last_instance, instance_links}
use Rattle.resolver_report.specs.Graphs.{links_of, links_after, links, is_entered, place_in, edge_in}
use Rattle.resolver_report.proofs.GraphLemmas.{IsFinding, finding, same_node_is_identity, has-without_repeats, without_repeats_once}

-- A list without its element at 1, whose last element takes that place.
module _ {X : Type 0} (xs : List X) (d : X) (two : 1 < length xs) where
  abbrev swapped : List X
  swapped = swap_remove xs 1 d

  pub at_other : (k : ℕ) (e : X) → k < length xs - 1 → k ≢ 1 → get_or swapped k e ≡ get_or xs k e
  at_other k e h apart = get_or-take (length xs - 1) (set xs 1 (get_or xs (length xs - 1) d)) k e h ∙
      get_or-set_other xs 1 k (get_or xs (length xs - 1) d) e apart

  pub at_one : (e : X) → 1 < length xs - 1 → get_or swapped 1 e ≡ get_or xs (length xs - 1) e
  at_one e h = get_or-take (length xs - 1) (set xs 1 (get_or xs (length xs - 1) d)) 1 e h ∙ get_or-set_same xs 1 (get_or xs (length xs - 1) d) e two ∙
      get_or_default xs (length xs - 1) d e (omega arith)

  abbrev Differ : ℕ → ℕ → X → Type 0
  Differ i j e = get_or swapped i e ≢ get_or swapped j e

  differ : HasNoRepeats xs → (i j : ℕ) (e : X) → i < j → j < length xs - 1 → Differ i j e
  differ once zero zero e lt h = absurd (omega arith)
  differ once zero (suc zero) e lt h =
      λ k. once 0 (length xs - 1) e (omega arith) (omega arith) (sym (at_other 0 e (omega arith) (omega arith)) ∙ k ∙ at_one e h)
  differ once zero (suc (suc j)) e lt h =
      λ k. once 0 (suc (suc j)) e lt (omega arith) (sym (at_other 0 e (omega arith) (omega arith)) ∙ k ∙ at_other (suc (suc j)) e h (omega arith))
  differ once (suc zero) zero e lt h = absurd (omega arith)
  differ once (suc zero) (suc zero) e lt h = absurd (omega arith)
  differ once (suc zero) (suc (suc j)) e lt h =
      λ k. once (suc (suc j)) (length xs - 1) e h (omega arith) (sym (at_other (suc (suc j)) e h (omega arith)) ∙ sym k ∙ at_one e (omega arith))
  differ once (suc (suc i)) zero e lt h = absurd (omega arith)
  differ once (suc (suc i)) (suc zero) e lt h = absurd (omega arith)
  differ once (suc (suc i)) (suc (suc j)) e lt h =
      λ k. once (suc (suc i)) (suc (suc j)) e lt (omega arith)
      (sym (at_other (suc (suc i)) e (omega arith) (omega arith)) ∙ k ∙ at_other (suc (suc j)) e h (omega arith))

  pub swapped_once : HasNoRepeats xs → HasNoRepeats swapped
  swapped_once once i j e lt h =
      let below : j < length xs - 1 = omega (arith, simp (length-take, length-set) at h) in
      differ once i j e lt below

  pub other_default : (e : X) → swap_remove xs 1 d ≡ swap_remove xs 1 e
  other_default e = ap (λ v. take (length xs - 1) (set xs 1 v)) (get_or_default xs (length xs - 1) d e (omega arith))

both : (a b : Bool) → (a || b) ≡ true → a ≡ false → b ≡ true
both true b e f = absurd (true≢false f)
both false b e f = e

pub AllByRecursion-append : {X : Type 0} (P : X → Type 0) (xs ys : List X) → AllByRecursion P xs → AllByRecursion P ys → AllByRecursion P (xs ++ ys)
AllByRecursion-append P [] ys h k = k
AllByRecursion-append P (x ∷ xs) ys h k = (h.0, AllByRecursion-append P xs ys h.1 k)

front_of : {X : Type 0} (P : X → Type 0) (xs ys : List X) → AllByRecursion P (xs ++ ys) → AllByRecursion P xs
front_of P [] ys h = tt
front_of P (x ∷ xs) ys h = (h.0, front_of P xs ys h.1)

rest_of : {X : Type 0} (P : X → Type 0) (xs ys : List X) → AllByRecursion P (xs ++ ys) → AllByRecursion P ys
rest_of P [] ys h = h
rest_of P (x ∷ xs) ys h = rest_of P xs ys h.1

weaker : {X : Type 0} (P Q : X → Type 0) → ((x : X) → P x → Q x) → (xs : List X) → AllByRecursion P xs → AllByRecursion Q xs
weaker P Q f [] h = tt
weaker P Q f (x ∷ xs) h = (f x h.0, weaker P Q f xs h.1)

module _ {S : Type 0} (same : S → S → Bool) (identity : IsIdentity same) where
  abbrev pub Has : List (ConflictNode S) → ConflictNode S → Type 0
  Has ms n = list_any (λ y. same_node same y n) ms ≡ true

  -- both ends are in the list, or the target is the unresolved node
  abbrev pub HasEnds : List (ConflictNode S) → Link S → Type 0
  HasEnds ms l = Has ms l.source × (Has ms l.target ⊎ (l.target ≡ UnresolvedDependency)) × (l.source ≢ UnresolvedDependency)

  abbrev pub HasMentioned : {N : Type 0} → List (ConflictNode S) → Rule N S → Type 0
  HasMentioned ms rule = AllByRecursion (Has ms) (mentioned rule)

  by_is_solved : (by : By S) → node_by by ≢ UnresolvedDependency
  by_is_solved ByRoot = λ e. cc
  by_is_solved (BySolvable s) = λ e. cc

  requirement_ends : (ms : List (ConflictNode S)) (source : ConflictNode S) (r : Requirement) (cs : List S) → Has ms source → source ≢ UnresolvedDependency →
      AllByRecursion (Has ms) (map Solvable cs) → AllByRecursion (HasEnds ms) (map (λ d. requirement_link source r (Solvable d)) cs)
  requirement_ends ms source r [] h k all = tt
  requirement_ends ms source r (c ∷ cs) h k all = ((h, inl all.0, k), requirement_ends ms source r cs h k all.1)

  requirement_links_ends : (ms : List (ConflictNode S)) (source : ConflictNode S) (r : Requirement) (cs : List S) → Has ms source →
      source ≢ UnresolvedDependency → AllByRecursion (Has ms) (map Solvable cs) → AllByRecursion (HasEnds ms) (requirement_links source r cs)
  requirement_links_ends ms source r [] h k all = ((h, inr refl, k), tt)
  requirement_links_ends ms source r (c ∷ cs) h k all = requirement_ends ms source r (c ∷ cs) h k all

  abbrev HasInstance : List (ConflictNode S) → Option S → Type 0
  HasInstance ms None = Unit {0}
  HasInstance ms (Some s) = Has ms (Solvable s)

  instance_cases : (ms : List (ConflictNode S)) (b : Bool) (s : S) (o : Option S) → Has ms (Solvable s) → HasInstance ms o → HasInstance ms (cond b (Some s) o)
  instance_cases ms true s o h k = h
  instance_cases ms false s o h k = k

  last_is_mentioned : {N : Type 0} (same_name : N → N → Bool) (ms : List (ConflictNode S)) (n : N) (earlier : List (Rule N S)) →
      AllByRecursion (HasMentioned ms) earlier → HasInstance ms (last_instance same_name n earlier)
  last_is_mentioned same_name ms n [] h = tt
  last_is_mentioned same_name ms n (OnePerPackage name instance ∷ earlier) h =
      instance_cases ms (same_name name n) instance (last_instance same_name n earlier) h.0.0 (last_is_mentioned same_name ms n earlier h.1)
  last_is_mentioned same_name ms n (Requires by requirement candidates when ∷ earlier) h = last_is_mentioned same_name ms n earlier h.1
  last_is_mentioned same_name ms n (Constrains by version_set candidate ∷ earlier) h = last_is_mentioned same_name ms n earlier h.1
  last_is_mentioned same_name ms n (Lock locked forbidden ∷ earlier) h = last_is_mentioned same_name ms n earlier h.1
  last_is_mentioned same_name ms n (Excluded solvable reason ∷ earlier) h = last_is_mentioned same_name ms n earlier h.1

  instance_ends : (ms : List (ConflictNode S)) (o : Option S) (s : S) → HasInstance ms o → Has ms (Solvable s) →
      AllByRecursion (HasEnds ms) (instance_links o s)
  instance_ends ms None s h k = tt
  instance_ends ms (Some t) s h k = ((h, inl k, λ e. cc), tt)

  links_of_ends : {N : Type 0} (same_name : N → N → Bool) (ms : List (ConflictNode S)) → Has ms Root → (earlier : List (Rule N S)) →
      AllByRecursion (HasMentioned ms) earlier → (rule : Rule N S) → HasMentioned ms rule → AllByRecursion (HasEnds ms) (links_of same_name earlier rule)
  links_of_ends same_name ms root earlier before (Requires by requirement candidates when) h =
      requirement_links_ends ms (node_by by) requirement candidates.items h.0 (by_is_solved by) h.1
  links_of_ends same_name ms root earlier before (Constrains by version_set candidate) h = ((h.0, inl h.1.0, by_is_solved by), tt)
  links_of_ends same_name ms root earlier before (Lock locked forbidden) h = ((root, inl h.0, λ e. cc), tt)
  links_of_ends same_name ms root earlier before (Excluded solvable reason) h = ((h.0, inl h.1.0, λ e. cc), tt)
  links_of_ends same_name ms root earlier before (OnePerPackage name instance) h =
      instance_ends ms (last_instance same_name name earlier) instance (last_is_mentioned same_name ms name earlier before) h.0

  links_after_ends : {N : Type 0} (same_name : N → N → Bool) (ms : List (ConflictNode S)) → Has ms Root → (earlier rs : List (Rule N S)) →
      AllByRecursion (HasMentioned ms) earlier → AllByRecursion (HasMentioned ms) rs → AllByRecursion (HasEnds ms) (links_after same_name earlier rs)
  links_after_ends same_name ms root earlier [] before h = tt
  links_after_ends same_name ms root earlier (r ∷ rs) before h =
      AllByRecursion-append (HasEnds ms) (links_of same_name earlier r) (links_after same_name (r ∷ earlier) rs)
      (links_of_ends same_name ms root earlier before r h.0) (links_after_ends same_name ms root (r ∷ earlier) rs (h.0, before) h.1)

  -- each mentioned node is among the mentions
  all_within : (ms xs : List (ConflictNode S)) → ((x : ConflictNode S) → Has xs x → Has ms x) → AllByRecursion (Has ms) xs
  all_within ms [] up = tt
  all_within ms (x ∷ xs) up =
      let here : Has (x ∷ xs) x = rw ((same_node_is_identity same identity).itself x) refl in
      (up x here, all_within ms xs (λ y h. up y (or_right (same_node same x y) (list_any (λ z. same_node same z y) xs) h)))

  by_rule : {N : Type 0} (ms : List (ConflictNode S)) (rs : List (Rule N S)) → AllByRecursion (Has ms) (flat_map mentioned rs) →
      AllByRecursion (HasMentioned ms) rs
  by_rule ms [] h = tt
  by_rule ms (r ∷ rs) h = (front_of (Has ms) (mentioned r) (flat_map mentioned rs) h, by_rule ms rs (rest_of (Has ms) (mentioned r) (flat_map mentioned rs) h))

  pub links_ends : {N : Type 0} (same_name : N → N → Bool) (rs : List (Rule N S)) → AllByRecursion (HasEnds (mentions rs)) (links same_name rs)
  links_ends same_name rs = links_after_ends same_name (mentions rs) refl [] rs tt
      (by_rule (mentions rs) rs (all_within (mentions rs) (mentions rs) (λ x h. h)).1.1)

  -- the place of a node is below the length
  place_below : (ms : List (ConflictNode S)) (n : ConflictNode S) → Has ms n → place_in same ms n < length ms
  place_below ms n h = let P : Bool → Type 0 = λ b. IsFinding b (place_in same ms n) (length ms) in subst P h (finding (λ y. same_node same y n) ms)

  -- a graph whose links have both ends among the nodes
  abbrev pub EndsIn : List (ConflictNode S) → Link S → Type 0
  EndsIn ms l = Has ms l.source × Has ms l.target

  is_shape : (ms : List (ConflictNode S)) (ls : List (Link S)) → HasNoRepeats ms → AllByRecursion (EndsIn ms) ls →
      IsShape (record { nodes = ms; edges = map (edge_in same ms) ls })
  is_shape ms ls once ends = record {
    sources = All-map (λ e. e.source.0 < length ms) (edge_in same ms) ls
        (All-from_recursion (λ l. place_in same ms l.source < length ms) ls
        (weaker (EndsIn ms) (λ l. place_in same ms l.source < length ms) (λ l h. place_below ms l.source h.0) ls ends));
    targets = All-map (λ e. e.target.0 < length ms) (edge_in same ms) ls
        (All-from_recursion (λ l. place_in same ms l.target < length ms) ls
        (weaker (EndsIn ms) (λ l. place_in same ms l.target < length ms) (λ l h. place_below ms l.target h.1) ls ends));
    once = once;
  }

  -- the nodes with the unresolved node
  ends_in_first : {N : Type 0} (rs : List (Rule N S)) (l : Link S) → HasEnds (mentions rs) l → EndsIn (first_mentions same rs) l
  ends_in_first rs l h =
      let up : (n : ConflictNode S) → Has (mentions rs) n → Has (first_mentions same rs) n =
      λ n k. has-without_repeats (same_node same) (same_node_is_identity same identity) (mentions rs) n ∙ k in
      let Target : ConflictNode S → Type 0 = λ n. Has (first_mentions same rs) n in
      (up l.source h.0, elim h.1 [ inl k ↦ up l.target k | inr e ↦ subst Target (sym e) (up UnresolvedDependency refl) ])

  pub first_ends : {N : Type 0} (same_name : N → N → Bool) (rs : List (Rule N S)) → AllByRecursion (EndsIn (first_mentions same rs)) (links same_name rs)
  first_ends same_name rs = weaker (HasEnds (mentions rs)) (EndsIn (first_mentions same rs)) (ends_in_first rs) (links same_name rs) (links_ends same_name rs)

  pub first_is_shape : {N : Type 0} (same_name : N → N → Bool) (rs : List (Rule N S)) →
      IsShape (record { nodes = first_mentions same rs; edges = map (edge_in same (first_mentions same rs)) (links same_name rs) })
  first_is_shape same_name rs = is_shape (first_mentions same rs) (links same_name rs)
      (without_repeats_once (same_node same) (same_node_is_identity same identity) (mentions rs))
      (first_ends same_name rs)

  -- the nodes without the unresolved node
  abbrev pub without_unresolved : {N : Type 0} → List (Rule N S) → List (ConflictNode S)
  without_unresolved rs = swap_remove (first_mentions same rs) 1 Root

  still_there : {N : Type 0} (rs : List (Rule N S)) (n : ConflictNode S) → Has (first_mentions same rs) n → same_node same UnresolvedDependency n ≡ false →
      Has (without_unresolved rs) n
  still_there rs n h apart =
      let ms : List (ConflictNode S) = first_mentions same rs in
      let two : 1 < length ms = omega arith in
      let moved : IsPermutation ms (UnresolvedDependency ∷ swap_remove ms 1 UnresolvedDependency) =
      IsPermutation-swap_remove ms 1 UnresolvedDependency two refl in
      let found = list_any-IsPermutation (λ y. same_node same y n) ms (UnresolvedDependency ∷ swap_remove ms 1 UnresolvedDependency) moved in
      let There : List (ConflictNode S) → Type 0 = λ list. Has list n in
      subst There (other_default ms UnresolvedDependency two Root)
      (both (same_node same UnresolvedDependency n) (list_any (λ y. same_node same y n) (swap_remove ms 1 UnresolvedDependency)) (sym found ∙ h) apart)

  not_same : (n : ConflictNode S) → n ≢ UnresolvedDependency → same_node same UnresolvedDependency n ≡ false
  not_same Root apart = refl
  not_same (Solvable s) apart = refl
  not_same UnresolvedDependency apart = absurd (apart refl)
  not_same (Reason r) apart = refl

  none_passes : {X : Type 0} (p : X → Bool) (xs : List X) → list_any p xs ≡ false → AllByRecursion (λ x. p x ≡ false) xs
  none_passes p [] h = tt
  none_passes p (x ∷ xs) h = split (p x) (list_any p xs) h (none_passes p xs)
    where
      split : (a b : Bool) → (a || b) ≡ false → (b ≡ false → AllByRecursion (λ x. p x ≡ false) xs) → (a ≡ false) × AllByRecursion (λ x. p x ≡ false) xs
      split true b e f = absurd (true≢false e)
      split false b e f = (refl, f e)

  pub together : {X : Type 0} (P Q R : X → Type 0) → ((x : X) → P x → Q x → R x) → (xs : List X) → AllByRecursion P xs → AllByRecursion Q xs →
      AllByRecursion R xs
  together P Q R f [] h k = tt
  together P Q R f (x ∷ xs) h k = (f x h.0 k.0, together P Q R f xs h.1 k.1)

  apart_target : (n : ConflictNode S) → same_node same n UnresolvedDependency ≡ false → n ≢ UnresolvedDependency
  apart_target n h e = let Unequal : ConflictNode S → Type 0 = λ m. same_node same m UnresolvedDependency ≡ false in true≢false (subst Unequal e h)

  ends_without : {N : Type 0} (rs : List (Rule N S)) (l : Link S) → HasEnds (mentions rs) l → same_node same l.target UnresolvedDependency ≡ false →
      EndsIn (without_unresolved rs) l
  ends_without rs l h apart =
      let ends = ends_in_first rs l h in
      (still_there rs l.source ends.0 (not_same l.source h.2), still_there rs l.target ends.1 (not_same l.target (apart_target l.target apart)))

  pub without_ends : {N : Type 0} (same_name : N → N → Bool) (rs : List (Rule N S)) → is_entered same (links same_name rs) ≡ false →
      AllByRecursion (EndsIn (without_unresolved rs)) (links same_name rs)
  without_ends same_name rs not_entered =
      together (HasEnds (mentions rs)) (λ l. same_node same l.target UnresolvedDependency ≡ false) (EndsIn (without_unresolved rs)) (ends_without rs)
      (links same_name rs)
      (links_ends same_name rs) (none_passes (λ l. same_node same l.target UnresolvedDependency) (links same_name rs) not_entered)

  pub without_is_shape : {N : Type 0} (same_name : N → N → Bool) (rs : List (Rule N S)) → is_entered same (links same_name rs) ≡ false →
      IsShape (record { nodes = without_unresolved rs; edges = map (edge_in same (without_unresolved rs)) (links same_name rs) })
  without_is_shape same_name rs not_entered = is_shape (without_unresolved rs) (links same_name rs)
      (swapped_once (first_mentions same rs) Root (omega arith) (without_repeats_once (same_node same) (same_node_is_identity same identity) (mentions rs)))
      (without_ends same_name rs not_entered)
