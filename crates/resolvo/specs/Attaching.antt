-- Attaching clauses and cutting the trail: the effect on the state of propagation.
use Rattle.std.specs.Prelude.{◌≡◌, ◌≢◌, ℕ, ◌+◌, ◌<◌, ◌≤◌, ◌++◌, ◌∷◌, false, Option, Some, None, List, [], length, All, Contains}
use Rattle.std.specs.Prelude.{slice_get, slice_index_or}
use Rattle.std.specs.Bool.{beq}
use Rattle.resolver_clause_store.specs.Literals.{Literal}
use Rattle.resolver_clause_store.specs.declared.Slot.{Slot}
use Rattle.resolver_clause_store.specs.declared.Trail.{Trail}
use Rattle.resolver_clause_store.specs.Formula.{clause_at}
use Rattle.resolver_clause_store.specs.TrailView.{IsTop, KeepsPlaces, length_of, open_count, slot_of, variable_count}
use Rattle.resolvo.specs.declared.propagator.Late.{Late}
use Rattle.resolvo.specs.declared.propagator.Propagator.{Propagator}
use Rattle.resolver_clause_store.specs.declared.WatchedPair.{WatchedPair}
use Rattle.resolvo.specs.Propagation.{ExtendsTrail, IsJustified}
use Rattle.resolver_clause_store.specs.Watches.{WatchesNothing}
use Rattle.resolvo.specs.Propagators.{IsConstant, IsNoted, FollowsTrail, IsPropagator, pending_of}

-- the new trail consists of first entries of the old one, and has with each entry all entries of its level and of lower
-- levels
pub record IsLower (old new : Trail) : Type 0 where
  pub size : variable_count new ≡ variable_count old
  pub places : KeepsPlaces old new (length_of new)
  pub stays : (variable : ℕ) (slot : Slot) → slot_of new variable ≡ Some slot → slot_of old variable ≡ Some slot
  pub whole : (variable other : ℕ) (slot lower : Slot) → slot_of new variable ≡ Some slot → slot_of old other ≡ Some lower → lower.level ≤ slot.level →
      slot_of new other ≡ Some lower

-- the noted lengths never fall
abbrev pub HasRisingLengths : List Late → Type 0
HasRisingLengths late = (k n : ℕ) (early later : Late) → k < n → slice_get late k ≡ Some early → slice_get late n ≡ Some later → early.length ≤ later.length

-- The late clauses at the end become pending: those that were noted with more than `count` entries.
pub record Recalls (old new : List Late) (pending more : List ℕ) (count : ℕ) : Type 0 where
  pub gone : List Late
  pub late : old ≡ new ++ gone
  pub noted : (number : ℕ) → IsNoted old pending number → IsNoted new more number
  pub inside : (bound : ℕ) → All (λ (l : Late). l.number < bound) old → All (λ number. number < bound) pending → All (λ number. number < bound) more
  pub within : HasRisingLengths old → All (λ (l : Late). l.length ≤ count) new

-- the literal is not false, or is false at the highest level
abbrev pub IsHigh : Trail → Literal → Type 0
IsHigh trail literal = (slot : Slot) → slot_of trail literal.variable ≡ Some slot → beq slot.value literal.positive ≡ false → IsTop trail slot.level

-- the pair has two different literals, each of this kind
pub record IsHighPair (trail : Trail) (pair : WatchedPair) : Type 0 where
  pub differ : pair.first ≢ pair.second
  pub first : IsHigh trail pair.first
  pub second : IsHigh trail pair.second

-- the literal does not become false before this place
abbrev pub IsNotFalseBefore : Trail → ℕ → Literal → Type 0
IsNotFalseBefore trail place literal = (slot : Slot) → slot_of trail literal.variable ≡ Some slot → beq slot.value literal.positive ≡ false → place ≤ slot.place

-- the number is the last
pub record HasLast (all : List ℕ) (number : ℕ) : Type 0 where
  pub rest : List ℕ
  pub is : all ≡ rest ++ number ∷ []

-- two different literals of the clause
pub record AreDistinctLiterals (clause : List Literal) (first second : Literal) : Type 0 where
  pub has_first : Contains clause first
  pub has_second : Contains clause second
  pub differ : first ≢ second

-- the pair has two different literals of the clause, or none if the clause does not have two
pub record IsPairOf (clause : List Literal) (pair : WatchedPair) : Type 0 where
  pub own : pair.first ≢ pair.second → AreDistinctLiterals clause pair.first pair.second
  pub constant : WatchesNothing pair → IsConstant clause

-- a literal of the clause that differs from the one at `other`, if that is given
abbrev pub IsOther : List Literal → Option ℕ → ℕ → Type 0
IsOther clause None place = place < length clause
IsOther clause (Some other) place = (place < length clause) × ((d : Literal) → slice_index_or clause place d ≢ slice_index_or clause other d)

-- the literal is the one at `other`, which is given
abbrev pub IsAlike : List Literal → Option ℕ → ℕ → Type 0
IsAlike clause None place = ⊥
IsAlike clause (Some other) place = (d : Literal) → slice_index_or clause place d ≡ slice_index_or clause other d

-- the same for each of the first literals of the clause
abbrev pub AreAlike : List Literal → Option ℕ → ℕ → Type 0
AreAlike clause other count = (place : ℕ) → place < count → IsAlike clause other place

-- the trail grew by literals that the clauses force
pub record Forces (table : List (List Literal)) (old new : Trail) : Type 0 where
  pub justified : IsJustified table new
  pub extends : ExtendsTrail old new
  pub size : variable_count new ≡ variable_count old
  pub open_less : open_count new ≤ open_count old

-- the clause is attached after those of the table
abbrev pub Attaches : Trail → List Literal → Propagator → Propagator → Type 0
Attaches trail clause old new = (table : List (List Literal)) → IsPropagator table trail old → IsPropagator (table ++ clause ∷ []) trail new

-- the clause with this number, of which this holds, is no longer pending
abbrev pub Pops : (Trail → List Literal → Type 0) → Trail → ℕ → Propagator → Propagator → Type 0
Pops Is trail number old new = (table : List (List Literal)) → Is trail (clause_at table number) → FollowsTrail table trail trail old new

-- one clause is no longer pending
abbrev pub PopsOne : Propagator → Propagator → Type 0
PopsOne old new = length (pending_of new) + 1 ≡ length (pending_of old)
