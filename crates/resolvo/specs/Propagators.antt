-- The state of propagation by watched literals.
use Rattle.std.specs.Prelude.{◌≡◌, ◌≢◌, ◌⊎◌, ℕ, ◌*◌, ◌<◌, ◌≤◌, true, Some, List, [], length, All, Any, Contains, slice_get}
use Rattle.std.specs.Bool.{beq}
use Rattle.resolver_clause_store.specs.Literals.{Literal}
use Rattle.resolver_clause_store.specs.declared.Slot.{Slot}
use Rattle.resolver_clause_store.specs.declared.Trail.{Trail}
use Rattle.resolver_clause_store.specs.Formula.{clause_at}
use Rattle.resolver_clause_store.specs.Outcomes.{IsFalseBefore}
use Rattle.resolver_clause_store.specs.TrailView.{slot_of, length_of, variable_count}
use Rattle.resolver_clause_store.specs.Watches.{FitClauses, IsWatching, WatchesNothing, pair_at}
use Rattle.resolver_clause_store.specs.WatchesView.{lists_of, pairs_of}
use Rattle.resolver_clause_store.specs.declared.Watch.{Watch}
use Rattle.resolver_clause_store.specs.declared.WatchedPair.{WatchedPair}
use Rattle.resolvo.specs.declared.propagator.Late.{Late}
use Rattle.resolvo.specs.declared.propagator.Propagator.{Propagator}

-- the number of entries of the trail that have been propagated
abbrev pub head_of : Propagator → ℕ
head_of it = it.head

-- the clauses that are satisfied by a literal that may be undone before a false watched literal
abbrev pub late_of : Propagator → List Late
late_of it = it.late.items

-- the clauses that are pending
abbrev pub pending_of : Propagator → List ℕ
pending_of it = it.pending

-- the number of attached clauses
abbrev pub attached_of : Propagator → ℕ
attached_of it = length (pairs_of it.watches)

-- the literal is true, at this level or a lower one
pub record IsTrueAt (trail : Trail) (level : ℕ) (literal : Literal) : Type 0 where
  pub slot : Slot
  pub is : slot_of trail literal.variable ≡ Some slot
  pub true_there : beq slot.value literal.positive ≡ true
  pub low : slot.level ≤ level

-- the literal is true, and became so before this place
pub record IsTrueBefore (trail : Trail) (place : ℕ) (literal : Literal) : Type 0 where
  pub slot : Slot
  pub is : slot_of trail literal.variable ≡ Some slot
  pub true_there : beq slot.value literal.positive ≡ true
  pub earlier : slot.place < place

-- the clause does not have two different literals
abbrev pub IsConstant : List Literal → Type 0
IsConstant clause = (one other : Literal) → Contains clause one → Contains clause other → one ≡ other

-- All clauses of the table are attached. A clause watches two different literals of its own, or none if it does not have two.
pub record AreWatched (table : List (List Literal)) (lists : List (List Watch)) (pairs : List WatchedPair) : Type 0 where
  pub attached : length pairs ≡ length table
  pub own : (number : ℕ) (literal : Literal) → IsWatching pairs number literal → Contains (clause_at table number) literal
  pub constant : (number : ℕ) → number < length pairs → WatchesNothing (pair_at pairs number) → IsConstant (clause_at table number)
  pub fit : FitClauses table lists

-- each of these clauses has a literal that is true before the noted place; the noted places never fall
pub record AreLate (table : List (List Literal)) (trail : Trail) (late : List Late) : Type 0 where
  pub each : All (λ (l : Late). Any (IsTrueBefore trail l.length) (clause_at table l.number)) late
  pub within : All (λ (l : Late). l.length ≤ length_of trail) late
  pub rising : (k n : ℕ) (early later : Late) → k < n → slice_get late k ≡ Some early → slice_get late n ≡ Some later → early.length ≤ later.length

-- the clause is noted as late or is pending
abbrev pub IsNoted : List Late → List ℕ → ℕ → Type 0
IsNoted late pending number = Any (λ (l : Late). l.number ≡ number) late ⊎ Contains pending number

-- the clause is true by a literal of this level or a lower one, or it is noted
abbrev pub IsExcused : List (List Literal) → Trail → List Late → List ℕ → ℕ → ℕ → Type 0
IsExcused table trail late pending level number =
    Any (IsTrueAt trail level) (clause_at table number) ⊎ IsNoted late pending number

-- If a watched literal is false and has been propagated, its clause is true by a literal of no higher level, or it is noted.
pub record IsWatchInvariant (table : List (List Literal)) (trail : Trail) (pairs : List WatchedPair) (late : List Late) (pending : List ℕ)
    (head : ℕ) : Type 0 where
  pub watched : (number : ℕ) (literal : Literal) → IsWatching pairs number literal → (fails : IsFalseBefore trail head literal) →
      IsExcused table trail late pending fails.slot.level number
  pub constant : (number : ℕ) → number < length pairs → WatchesNothing (pair_at pairs number) → IsNoted late pending number

-- the invariant of propagation
pub record IsPropagator (table : List (List Literal)) (trail : Trail) (it : Propagator) : Type 0 where
  pub lists : length (lists_of it.watches) ≡ 2 * variable_count trail
  pub watched : AreWatched table (lists_of it.watches) (pairs_of it.watches)
  pub late : AreLate table trail (late_of it)
  pub pending : All (λ number. number < attached_of it) (pending_of it)
  pub inside : All (λ (l : Late). l.number < attached_of it) (late_of it)
  pub head : head_of it ≤ length_of trail
  pub covers : IsWatchInvariant table trail (pairs_of it.watches) (late_of it) (pending_of it) (head_of it)

-- all clauses are attached, and none is pending
pub record IsAttached (table : List (List Literal)) (it : Propagator) : Type 0 where
  pub all : attached_of it ≡ length table
  pub none : pending_of it ≡ []

-- the propagator follows the trail
abbrev pub FollowsTrail : List (List Literal) → Trail → Trail → Propagator → Propagator → Type 0
FollowsTrail table before after old new = IsPropagator table before old → IsPropagator table after new
