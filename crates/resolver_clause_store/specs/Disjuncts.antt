-- The disjunctive normal form of a condition: lists of version sets. The condition holds if each version set of some list has a candidate in the set.
use Rattle.std.specs.Prelude.{◌≡◌, ℕ, zero, suc, ◌+◌, ◌*◌, ◌<◌, ◌↔◌, List, [], ◌∷◌, ◌++◌, Contains, All, map, reverse}
use Rattle.resolver_clause_store.specs.Universe.{Universe}
use Rattle.resolver_clause_store.specs.Candidates.{matching}
use Rattle.resolver_clause_store.specs.Conditions.{ConditionHolds}
use Rattle.resolver_clause_store.specs.declared.ids.VersionSetId.{VersionSetId}
use Rattle.resolver_clause_store.specs.declared.ids.ConditionId.{ConditionId}
use Rattle.resolver_clause_store.specs.declared.conditions.Partial.{Partial}
use Rattle.resolver_clause_store.specs.declared.data.LogicalOperator.TheVariants.{And, Or}
use Rattle.resolver_clause_store.specs.declared.data.Condition.TheVariants.{Requirement as Matched, Binary}

-- each list of the first, followed by each list of the second
abbrev pub joined : {X : Type 0} → List (List X) → List (List X) → List (List X)
joined [] ys = []
joined (x ∷ xs) ys = map (λ y. x ++ y) ys ++ joined xs ys

-- A version set has one list, with itself alone. Or has the lists of its left part, then those of its right part. And has each list of its left part
-- followed by each list of its right part, in the order of the left ones.
pub data IsDisjunctive {N S : Type 0} (u : Universe N S) : ConditionId → List (List VersionSetId) → Type 0 where
  of_version_set : {c : ConditionId} (v : VersionSetId) → u.condition c ≡ Matched v → IsDisjunctive u c ((v ∷ []) ∷ [])
  of_or : {c : ConditionId} {lefts rights : List (List VersionSetId)} (a b : ConditionId) → u.condition c ≡ Binary Or a b → IsDisjunctive u a lefts →
      IsDisjunctive u b rights → IsDisjunctive u c (lefts ++ rights)
  of_and : {c : ConditionId} {lefts rights : List (List VersionSetId)} (a b : ConditionId) → u.condition c ≡ Binary And a b → IsDisjunctive u a lefts →
      IsDisjunctive u b rights → IsDisjunctive u c (joined lefts rights)

-- a candidate in the version set is in the set
pub record IsTaken {N S : Type 0} (u : Universe N S) (Has : S → Type 0) (v : VersionSetId) : Type 0 where
  pub taken : S
  pub listed : Contains (matching u v) taken
  pub inside : Has taken

-- each version set of some list has a candidate in the set
pub record SomeHolds {N S : Type 0} (u : Universe N S) (Has : S → Type 0) (lists : List (List VersionSetId)) : Type 0 where
  pub disjunct : List VersionSetId
  pub listed : Contains lists disjunct
  pub all_taken : All (IsTaken u Has) disjunct

-- the condition holds in just the sets in which some list does
abbrev pub HoldsAsSome : {N S : Type 0} → Universe N S → ConditionId → List (List VersionSetId) → Type 0
HoldsAsSome {N} {S} u c lists = (set : List S) → ConditionHolds u (Contains set) c ↔ SomeHolds u (Contains set) lists

-- an unfinished disjunct: the conditions still to be added to it, the next one first, and the version sets that it has
pub record PartialDisjunct : Type 0 where
  pub pending : List ConditionId
  pub chosen : List VersionSetId

abbrev pub partial_disjunct : Partial → PartialDisjunct
partial_disjunct p = record { pending = reverse p.pending.items; chosen = p.chosen.items }

-- the disjuncts of a stack, the top first
abbrev pub partial_disjuncts : List Partial → List PartialDisjunct
partial_disjuncts stack = map partial_disjunct (reverse stack)

-- the lists that have a disjunct of each condition, in order
pub data AreJoined {N S : Type 0} (u : Universe N S) : List ConditionId → List (List VersionSetId) → Type 0 where
  joined_none : AreJoined u [] ([] ∷ [])
  joined_next : {c : ConditionId} {cs : List ConditionId} {firsts others : List (List VersionSetId)} → IsDisjunctive u c firsts → AreJoined u cs others →
      AreJoined u (c ∷ cs) (joined firsts others)

-- the finished disjuncts that result from these, in order
pub data AreFinished {N S : Type 0} (u : Universe N S) : List PartialDisjunct → List (List VersionSetId) → Type 0 where
  finished_none : AreFinished u [] []
  finished_next : {p : PartialDisjunct} {ps : List PartialDisjunct} {lists others : List (List VersionSetId)} → AreJoined u p.pending lists →
      AreFinished u ps others → AreFinished u (p ∷ ps) (map (λ list. p.chosen ++ list) lists ++ others)

-- a bound of the work for a condition of this rank, above the sum and the product of the bounds for two of a lower rank
abbrev pub work_at : ℕ → ℕ
work_at zero = 2
work_at (suc rank) = suc (work_at rank * work_at rank)

abbrev pub pending_work : {N S : Type 0} → Universe N S → List ConditionId → ℕ
pending_work u [] = 1
pending_work u (c ∷ cs) = work_at (u.condition_rank c) * pending_work u cs

abbrev pub work_left : {N S : Type 0} → Universe N S → List PartialDisjunct → ℕ
work_left u [] = 0
work_left u (p ∷ ps) = pending_work u p.pending + work_left u ps

-- both give the same disjuncts, and the first one takes less work
pub record IsCloser {N S : Type 0} (u : Universe N S) (after before : List PartialDisjunct) : Type 0 where
  pub same : (lists : List (List VersionSetId)) → AreFinished u after lists → AreFinished u before lists
  pub less : work_left u after < work_left u before

-- the second stack is closer than the first one with the disjunct on top, to which the condition is added next
abbrev pub IsPut : {N S : Type 0} → Universe N S → ConditionId → Partial → (before after : List Partial) → Type 0
IsPut u condition p before after = IsCloser u (partial_disjuncts after)
    (record { pending = condition ∷ reverse p.pending.items; chosen = p.chosen.items } ∷ partial_disjuncts before)
