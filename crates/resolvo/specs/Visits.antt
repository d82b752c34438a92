-- The clauses that watch a literal which has become false.
use Rattle.std.specs.Prelude.{◌≡◌, ◌≢◌, ℕ, ◌-◌, ◌<◌, ◌≤◌, ◌++◌, ◌∷◌, if◌then◌else◌, false, true, MatchOption, Option, Some, List, [], length, Contains, slice_get, slice_index_or}
use Rattle.std.specs.Bool.{beq}
use Rattle.resolver_clause_store.specs.Literals.{Literal, list_number}
use Rattle.resolver_clause_store.specs.declared.Slot.{Slot}
use Rattle.resolver_clause_store.specs.declared.Trail.{Trail}
use Rattle.resolver_clause_store.specs.Formula.{AreBelow}
use Rattle.resolver_clause_store.specs.TrailView.{IsTop, literal_value, slot_of, variable_count}
use Rattle.resolvo.specs.Propagation.{IsConflict}
use Rattle.resolvo.specs.Propagators.{IsAttached, IsExcused, IsPropagator, head_of, late_of, pending_of}
use Rattle.resolver_clause_store.specs.Watches.{IsPair, list_at, pair_at}
use Rattle.resolver_clause_store.specs.WatchesView.{lists_of}
use Rattle.resolvo.specs.declared.propagator.Late.{Late}
use Rattle.resolvo.specs.declared.propagator.Propagator.{Propagator}
use Rattle.resolvo.specs.declared.propagator.visiting.FalseLiteral.{FalseLiteral}
use Rattle.resolvo.specs.declared.propagator.visiting.WatchOutcome.{WatchOutcome}
use Rattle.resolvo.specs.declared.propagator.visiting.WatchOutcome.TheVariants.{Next, Conflict}
use Rattle.resolver_clause_store.specs.declared.PlacedWatch.{PlacedWatch}
use Rattle.resolver_clause_store.specs.declared.Watch.{Watch}
use Rattle.resolver_clause_store.specs.declared.WatchedPair.{WatchedPair}

-- the literal became false at this place and level, and `is_top` is right about whether that is the highest level
pub record FailsAt (trail : Trail) (place : ℕ) (it : FalseLiteral) : Type 0 where
  pub slot : Slot
  pub is : slot_of trail it.literal.variable ≡ Some slot
  pub false_there : beq slot.value it.literal.positive ≡ false
  pub placed : slot.place ≡ place
  pub level : slot.level ≡ it.level
  pub top : it.is_top ≡ true → IsTop trail it.level

-- the clauses that watch the literal
abbrev pub watchers_of : Propagator → Literal → List Watch
watchers_of propagator literal = list_at (lists_of propagator.watches) (list_number literal)

-- the first `count` watchers in the list are clauses that are true by a literal of this level or a lower one, or noted
pub record AreExcused (table : List (List Literal)) (trail : Trail) (watchers : List Watch) (late : List Late) (pending : List ℕ)
    (level count : ℕ) : Type 0 where
  pub each : (place : ℕ) (watch : Watch) → place < count → slice_get watchers place ≡ Some watch → IsExcused table trail late pending level watch.number

-- a clause is noted as late, unless the literal became false at the highest level
abbrev pub late_with : List Late → FalseLiteral → ℕ → ℕ → List Late
late_with late falsified number length = if falsified.is_top then late else late ++ record { number = number; length = length } ∷ []

-- the invariant while the watchers of the literal are visited, after the first `count` of them
pub record IsVisiting (table : List (List Literal)) (trail : Trail) (it : Propagator) (falsified : FalseLiteral) (count : ℕ) : Type 0 where
  pub below : AreBelow (variable_count trail) table
  pub propagator : IsPropagator table trail it
  pub attached : IsAttached table it
  pub fails : FailsAt trail (head_of it) falsified
  pub excused : AreExcused table trail (watchers_of it falsified.literal) (late_of it) (pending_of it) falsified.level count

-- the visits go on at the place of the next watcher, or all watchers are visited
abbrev pub GoesOnAt : Trail → Propagator → FalseLiteral → ℕ → Option PlacedWatch → Type 0
GoesOnAt trail it falsified from next = (table : List (List Literal)) → IsVisiting table trail it falsified from →
    MatchOption next (IsVisiting table trail it falsified (length (watchers_of it falsified.literal)))
    (λ placed. IsVisiting table trail it falsified placed.place)

-- the visit goes on at the next place, with fewer watchers left
pub record ContinuesVisit (table : List (List Literal)) (trail : Trail) (old new : Propagator) (falsified : FalseLiteral) (place next : ℕ) : Type 0 where
  pub visiting : IsVisiting table trail new falsified next
  pub head : head_of new ≡ head_of old
  pub within : next ≤ length (watchers_of new falsified.literal)
  pub fewer : length (watchers_of new falsified.literal) - next < length (watchers_of old falsified.literal) - place

-- the clause with this number is false
pub record Fails (table : List (List Literal)) (trail : Trail) (new : Propagator) (number : ℕ) : Type 0 where
  pub conflict : IsConflict trail table number
  pub propagator : IsPropagator table trail new
  pub attached : IsAttached table new

-- the result of the visit to the watcher at a place
abbrev pub WatchOutcomeIs : List (List Literal) → Trail → Propagator → Propagator → FalseLiteral → ℕ → WatchOutcome → Type 0
WatchOutcomeIs table trail old new falsified place (Next next) = ContinuesVisit table trail old new falsified place next
WatchOutcomeIs table trail old new falsified place (Conflict number) = Fails table trail new number

-- a literal of the clause that is not false and differs from `other`
pub record IsReplacement (trail : Trail) (clause : List Literal) (other to : Literal) : Type 0 where
  pub inside : Contains clause to
  pub differ : other ≢ to
  pub not_false : literal_value trail to ≢ Some false

-- such a literal stands at this place of the clause
pub record ReplacesAt (trail : Trail) (clause : List Literal) (other : Literal) (place : ℕ) : Type 0 where
  pub inside : place < length clause
  pub replaces : (d : Literal) → IsReplacement trail clause other (slice_index_or clause place d)

-- the clause watches these two literals, which differ
pub record IsPaired (pairs : List WatchedPair) (number : ℕ) (one other : Literal) : Type 0 where
  pub is : IsPair (pair_at pairs number) one other
  pub differ : one ≢ other

-- the watch stands at its place in the list
abbrev pub IsWatchPlaced : List Watch → PlacedWatch → Type 0
IsWatchPlaced watchers placed = slice_get watchers placed.place ≡ Some placed.watch

-- the clause with this number is at this place
pub record IsWatchedAt (watchers : List Watch) (place number : ℕ) : Type 0 where
  pub watch : Watch
  pub is : slice_get watchers place ≡ Some watch
  pub named : watch.number ≡ number
