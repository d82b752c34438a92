-- One more node in the map of groups.
use Rattle.std.proofs.Common.{◌≡◌, ℕ, ◌+◌, ◌<◌, ◌≤◌, Bool, true, false, cond, List, [], ◌∷◌, length, refl, sym, ◌∙◌, ap, subst, ⊎_elim, arith}
use Rattle.std.specs.Prelude.{Option, Some, None, IsSome, IsNone, MatchOption, slice_get, slice_index}
use Rattle.std.specs.Option.{is_some}
use Rattle.std.specs.Map.{lookup}
use Rattle.std.specs.HashMap.{get}
use Rattle.std.proofs.lemmas.List.{length-map}
use Rattle.std.proofs.lemmas.List.FromFn.{length-range_with_len}
use Rattle.std.proofs.lemmas.Bool.{true≢false, false≢true, cases_lt}
use Rattle.resolver_clause_store.specs.Laws.{IsIdentity}
use Rattle.resolver_clause_store.specs.Lists.{HasNoRepeats}
use Rattle.resolver_clause_store.specs.Universe.{Universe}
use Rattle.resolver_report.specs.declared.graph.ConflictNode.{ConflictNode}
use Rattle.resolver_report.specs.declared.graph.ConflictNode.TheVariants.{Root, Solvable, UnresolvedDependency, Excluded}
use Rattle.resolver_report.specs.Shapes.{Shape, as_solvable, places, solvable_at}
use Rattle.resolver_report.specs.Merging.{Key, key_of, keys, class_in, first_of_two, group_in, solvables_at}
use Rattle.resolver_report.specs.Simplified.{Group, Groups, IsGroupOf, IsEarlierGroup, IsMadeAt, IsSimplified, IsSimplifiedBefore}
use Rattle.resolver_clause_store.proofs.ListLemmas.{slice_get-inside as below}
use Rattle.resolver_report.proofs.AlikeLemmas.{class_of_first}
use Rattle.std.proofs.lemmas.Option.{get_or_from_slice_get}

match_weaker : {A B : Type 0} {X : Type 0} (o : Option X) (P Q : X → Type 0) → (A → B) → ((x : X) → P x → Q x) → MatchOption o A P → MatchOption o B Q
match_weaker None P Q f h m = f m
match_weaker (Some x) P Q f h m = h x m

at_some : {X : Type 0} (A : Type 0) (o : Option X) (P : X → Type 0) (x : X) → o ≡ Some x → MatchOption o A P → P x
at_some {X} A o P x e m = let M : Option X → Type 0 = λ p. MatchOption p A P in subst M e m

node_of : {S : Type 0} (o : Option (ConflictNode S)) (s : S) → as_solvable o ≡ Some s → o ≡ Some (Solvable s)
node_of (Some (Solvable t)) s e = cc
node_of (Some Root) s e = absurd cc
node_of (Some UnresolvedDependency) s e = absurd cc
node_of (Some (Excluded r)) s e = absurd cc
node_of None s e = absurd cc

-- an element of a list without repeats stands at only one place
one_place : {X : Type 0} (xs : List X) → HasNoRepeats xs → (n k : ℕ) (x : X) → slice_get xs n ≡ Some x → slice_get xs k ≡ Some x → n ≡ k
one_place xs once n k x e f =
    ⊎_elim
    (λ (lt : n < k). absurd (once n k x lt (below xs k x f) (get_or_from_slice_get xs n x x e ∙ sym (get_or_from_slice_get xs k x x f))))
    (λ (le : k ≤ n). ⊎_elim
    (λ (lt : k < n). absurd (once k n x lt (below xs n x e) (get_or_from_slice_get xs k x x f ∙ sym (get_or_from_slice_get xs n x x e))))
    (λ (ge : n ≤ k). omega arith)
    (cases_lt k n))
    (cases_lt n k)

first_is : (xs : List ℕ) → 2 ≤ length xs → first_of_two xs ≡ Some (slice_index xs 0)
first_is [] h = absurd (omega (arith, h))
first_is (x ∷ []) h = absurd (omega (arith, h))
first_is (x ∷ y ∷ xs) h = refl

module _ {S : Type 0} (same : S → S → Bool) (ks : List Key) (g : Shape S) (n : ℕ) where
  -- the group of the first node of a class is the group of the class
  pub shared_group : (groups : Groups S) (group copy : Group S) (class : List ℕ) → class ≡ class_in ks n → 2 ≤ length class →
      IsSimplifiedBefore same ks g n groups → IsMadeAt same g (slice_index class 0) groups group → copy.value ≡ group.value → IsGroupOf ks g n copy
  shared_group groups group copy class are several before made is =
      let m : ℕ = slice_index class 0 in
      let first : group_in ks n ≡ Some m = ap first_of_two (sym are) ∙ first_is class several in
      let earlier : IsEarlierGroup ks g n m group =
      at_some (m < n → IsNone (group_in ks m)) (get same groups made.solvable) (IsEarlierGroup ks g n m) group made.mapped
      (before.members m made.solvable made.at_node) in
      record { several = ap is_some first; ids = ap (λ v. v.ids.items) is ∙ earlier.of_node.ids ∙ ap (solvables_at g) (class_of_first ks n m first) }

  longer : (k : ℕ) (group : Group S) → IsEarlierGroup ks g n k group → IsEarlierGroup ks g (n + 1) k group
  longer k group h = let lt : k < n = h.before in record { before = omega arith; of_node = h.of_node }

  -- a node without a group adds nothing to the map
  pub skipped : (m : Groups S) → ((s : S) → solvable_at g n ≡ Some s → IsNone (group_in ks n)) → IsSimplifiedBefore same ks g n m →
      IsSimplifiedBefore same ks g (n + 1) m
  skipped m alone before = record { members = members; only = before.only }
    where
      now_none : (k : ℕ) (s : S) → solvable_at g k ≡ Some s → (k < n → IsNone (group_in ks k)) → k < n + 1 → IsNone (group_in ks k)
      now_none k s e earlier lt = ⊎_elim (λ (less : k < n). earlier less)
          (λ (le : n ≤ k). let is : n ≡ k = omega arith in let P : ℕ → Type 0 = λ i. ((t : S) → solvable_at g i ≡ Some t → IsNone (group_in ks i)) in
          subst P is alone s e) (cases_lt k n)

      members : (k : ℕ) (s : S) → solvable_at g k ≡ Some s → MatchOption (get same m s) (k < n + 1 → IsNone (group_in ks k)) (IsEarlierGroup ks g (n + 1) k)
      members k s e = match_weaker (get same m s) (IsEarlierGroup ks g n k) (IsEarlierGroup ks g (n + 1) k) (now_none k s e) (longer k) (before.members k s e)

  -- the solvable of the node is mapped to its group
  module _ (identity : IsIdentity same) (once : HasNoRepeats g.nodes) (s : S) (at_node : solvable_at g n ≡ Some s) (group : Group S)
      (is : IsGroupOf ks g n group) (old new : Groups S)
      (updates : (q : S) → get same new q ≡ cond (same s q) (Some group) (get same old q)) (before : IsSimplifiedBefore same ks g n old) where
    here_or_other : (k : ℕ) (q : S) (b : Bool) → same s q ≡ b → solvable_at g k ≡ Some q →
        MatchOption (cond b (Some group) (get same old q)) (k < n + 1 → IsNone (group_in ks k)) (IsEarlierGroup ks g (n + 1) k)
    here_or_other k q true t e =
        let value : s ≡ q = identity.alone s q t in
        let place : n ≡ k = one_place g.nodes once n k (Solvable q) (node_of (slice_get g.nodes n) q (at_node ∙ ap Some value))
        (node_of (slice_get g.nodes k) q e) in
        let P : ℕ → Type 0 = λ i. IsGroupOf ks g i group in
        record { before = omega arith; of_node = subst P place is }
    here_or_other k q false t e = match_weaker (get same old q) (IsEarlierGroup ks g n k) (IsEarlierGroup ks g (n + 1) k) now_none (longer k)
        (before.members k q e)
      where
        now_none : (k < n → IsNone (group_in ks k)) → k < n + 1 → IsNone (group_in ks k)
        now_none earlier lt = ⊎_elim (λ (less : k < n). earlier less)
            (λ (le : n ≤ k). let place : n ≡ k = omega arith in
            let told : solvable_at g n ≡ Some q = ap (solvable_at g) place ∙ e in
            let there : Some s ≡ Some q = sym at_node ∙ told in
            let value : s ≡ q = cc in
            absurd (true≢false (sym (identity.itself s) ∙ ap (same s) value ∙ t))) (cases_lt k n)

    only_at : (q : S) (b : Bool) → same s q ≡ b → IsSome (cond b (Some group) (get same old q)) → (k : ℕ) × (solvable_at g k ≡ Some q)
    only_at q true t h = (n, at_node ∙ ap Some (identity.alone s q t))
    only_at q false t h = before.only q h

    pub mapped : IsSimplifiedBefore same ks g (n + 1) new
    mapped = record { members = λ k q e. rw (updates q) (here_or_other k q (same s q) refl e); only = λ q h. only_at q (same s q) refl (rw (updates q) at h) }

-- no node is before the first, and each is before the end
pub simplified_none : {S : Type 0} (same : S → S → Bool) (ks : List Key) (g : Shape S) (m : Groups S) → m.entries ≡ [] → IsSimplifiedBefore same ks g 0 m
simplified_none {S} same ks g m empty = record { members = λ n s e. members n s; only = only }
  where
    members : (n : ℕ) (s : S) → MatchOption (get same m s) (n < 0 → IsNone (group_in ks n)) (IsEarlierGroup ks g 0 n)
    members n s =
        let P : List (S × Group S) → Type 0 = λ es. MatchOption (lookup (same s) es) (n < 0 → IsNone (group_in ks n)) (IsEarlierGroup ks g 0 n) in
        subst P (sym empty) (λ (lt : n < 0). absurd (omega arith))

    only : (s : S) → IsSome (get same m s) → (n : ℕ) × (solvable_at g n ≡ Some s)
    only s =
        let P : List (S × Group S) → Type 0 = λ es. (IsSome (lookup (same s) es) → (n : ℕ) × (solvable_at g n ≡ Some s)) in
        subst P (sym empty) (λ h. absurd (false≢true h))

length-keys : {N S : Type 0} (u : Universe N S) (g : Shape S) → length (keys u g) ≡ length g.nodes
length-keys u g = length-map (places g) (key_of u g) ∙ length-range_with_len 0 (length g.nodes)

pub simplified : {N S : Type 0} (same : S → S → Bool) (u : Universe N S) (g : Shape S) (ks : List Key) (limit : ℕ) (m : Groups S) → ks ≡ keys u g →
    length ks ≤ limit → IsSimplifiedBefore same ks g limit m → IsSimplified same u g m
simplified {N} {S} same u g ks limit m are long before = record { members = members; only = before.only }
  where
    members : (n : ℕ) (s : S) → solvable_at g n ≡ Some s → MatchOption (get same m s) (IsNone (group_in (keys u g) n)) (IsGroupOf (keys u g) g n)
    members n s e =
        let lt : n < length g.nodes = below g.nodes n (Solvable s) (node_of (slice_get g.nodes n) s e) in
        let len : length ks ≡ length g.nodes = ap length are ∙ length-keys u g in
        let within : n < limit = omega arith in
        let P : List Key → Type 0 = λ list. MatchOption (get same m s) (IsNone (group_in list n)) (IsGroupOf list g n) in
        subst P are (match_weaker (get same m s) (IsEarlierGroup ks g limit n) (IsGroupOf ks g n) (λ (f : n < limit → IsNone (group_in ks n)).
        f within) (λ group (h : IsEarlierGroup ks g limit n group). h.of_node) (before.members n s e))
