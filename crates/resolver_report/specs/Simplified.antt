-- The map that `simplify` returns.
use Rattle.std.specs.Prelude.{◌≡◌, ℕ, ◌<◌, Bool, List, Some, IsSome, IsNone, MatchOption, ◌+◌, Option}
use Rattle.std.specs.Global.{Global}
use denote.Ref.{Bor}
use Rattle.std.specs.HashMap.{HashMap, get}
use Rattle.std.specs.declared.rc.Rc.{Rc}
use Rattle.std.specs.declared.hash.FoldHasher.{FoldHasher}
use Rattle.std.specs.declared.hash.BuildHasherDefault.{BuildHasherDefault}
use Rattle.resolver_clause_store.specs.Universe.{Universe}
use Rattle.resolver_report.specs.declared.simplify.MergedConflictNode.{MergedConflictNode}
use Rattle.resolver_report.specs.Shapes.{Shape, solvable_at}
use Rattle.resolver_report.specs.Merging.{Key, keys, class_in, group_in, solvables_at}

abbrev pub Group : Type 0 → Type 0
Group S = Rc (MergedConflictNode S) Global

abbrev pub Groups : Type 0 → Type 0
Groups S = HashMap S (Group S) (BuildHasherDefault FoldHasher)

-- the group of a node whose class has at least two members: the solvables of that class
pub record IsGroupOf {S : Type 0} (ks : List Key) (g : Shape S) (n : ℕ) (group : Group S) : Type 0 where
  pub several : IsSome (group_in ks n)
  pub ids : group.value.ids.items ≡ solvables_at g (class_in ks n)

-- the group of a node, if its class has at least two members
abbrev pub IsFoundGroup : {S : Type 0} → List Key → Shape S → ℕ → Option (Group S) → Type 0
IsFoundGroup ks g n found = MatchOption found (IsNone (group_in ks n)) (IsGroupOf ks g n)

-- the same of a reference to it
abbrev pub IsFoundAt : {S : Type 0} → List Key → Shape S → ℕ → Option (Bor (Group S)) → Type 0
IsFoundAt ks g n found = MatchOption found (IsNone (group_in ks n)) (λ group. IsGroupOf ks g n group.now)

-- each solvable whose class has at least two members is mapped to its group, in node order, and nothing else is mapped
pub record IsSimplified {N S : Type 0} (same : S → S → Bool) (u : Universe N S) (g : Shape S) (m : Groups S) : Type 0 where
  pub members : (n : ℕ) (s : S) → solvable_at g n ≡ Some s → IsFoundGroup (keys u g) g n (get same m s)
  pub only : (s : S) → IsSome (get same m s) → (n : ℕ) × (solvable_at g n ≡ Some s)

-- the group of a node below the limit
pub record IsEarlierGroup {S : Type 0} (ks : List Key) (g : Shape S) (limit n : ℕ) (group : Group S) : Type 0 where
  pub before : n < limit
  pub of_node : IsGroupOf ks g n group

-- the same for the nodes below the limit; nothing else is mapped
pub record IsSimplifiedBefore {S : Type 0} (same : S → S → Bool) (ks : List Key) (g : Shape S) (limit : ℕ) (m : Groups S) : Type 0 where
  pub members : (n : ℕ) (s : S) → solvable_at g n ≡ Some s →
      MatchOption (get same m s) (n < limit → IsNone (group_in ks n)) (IsEarlierGroup ks g limit n)
  pub only : (s : S) → IsSome (get same m s) → (n : ℕ) × (solvable_at g n ≡ Some s)

-- the solvable of the node is mapped to this group
pub record IsMadeAt {S : Type 0} (same : S → S → Bool) (g : Shape S) (n : ℕ) (m : Groups S) (group : Group S) : Type 0 where
  pub solvable : S
  pub at_node : solvable_at g n ≡ Some solvable
  pub mapped : get same m solvable ≡ Some group

-- the group of a node with this class, after those of the nodes below it
abbrev pub IsNextGroup : {S : Type 0} → (S → S → Bool) → Shape S → List ℕ → Groups S → Option (Group S) → Type 0
IsNextGroup same g class m group =
    (ks : List Key) (n : ℕ) → class ≡ class_in ks n → IsSimplifiedBefore same ks g n m → IsFoundGroup ks g n group

-- a node with this class is mapped to its group, after the nodes below it
abbrev pub MapsNext : {S : Type 0} → (S → S → Bool) → Shape S → List ℕ → ℕ → Groups S → Groups S → Type 0
MapsNext same g class n old new =
    (ks : List Key) → class ≡ class_in ks n → IsSimplifiedBefore same ks g n old → IsSimplifiedBefore same ks g (n + 1) new
