-- The queue of requirements to decide.
use Rattle.std.specs.Prelude.{◌≡◌, ℕ, ◌<◌, ◌≤◌, ◌⊎◌, true, false, Some, List, length, Contains, slice_index, slice_index_or, ◌++◌, ◌∷◌, [], All}
use Rattle.resolver_clause_store.specs.Literals.{Literal}
use Rattle.resolver_clause_store.specs.declared.clauses.StoredRequirement.{StoredRequirement}
use Rattle.resolver_clause_store.specs.declared.trail.Slot.{Slot}
use Rattle.resolver_clause_store.specs.declared.trail.Trail.{Trail}
use Rattle.resolver_clause_store.specs.Formula.{clause_at}
use Rattle.resolver_clause_store.specs.Decisions.{IsFirstUnassigned}
use Rattle.resolver_clause_store.specs.Outcomes.{IsMet}
use Rattle.resolver_clause_store.specs.TrailView.{KeepsPlaces, length_of, literal_value, slot_of, variable_at}
use Rattle.resolver_clause_store.specs.NumberedLists.{list_of}
use Rattle.resolver_clause_store.specs.LastOpens.{IsLastOpen, IsOpenSince}
use Rattle.resolver_clause_store.specs.declared.last_open.LastOpen.{LastOpen}
use Rattle.resolver_clause_store.specs.declared.queue.DecideQueue.{DecideQueue}

-- The requirement with this index is put aside for a variable that its clause negates, and that is not true at an
-- unchanged place.
pub record IsInactive (inactive : List (List ℕ)) (trail : Trail) (kept : ℕ) (clause : List Literal) (index : ℕ) : Type 0 where
  pub variable : ℕ
  pub parked : Contains (list_of inactive variable) index
  pub asks : Contains clause (record { variable = variable; positive = false })
  pub not_true : (slot : Slot) → slot_of trail variable ≡ Some slot → slot.value ≡ true → kept ≤ slot.place

-- The requirement with this index has a candidate that was true when its place was followed, and is still true if that
-- place is unchanged.
pub record IsMetBy (met : List (List ℕ)) (trail : Trail) (followed : List ℕ) (kept : ℕ) (clause : List Literal) (index : ℕ) : Type 0 where
  pub variable : ℕ
  pub parked : Contains (list_of met variable) index
  pub has : Contains clause (record { variable = variable; positive = true })
  pub place : ℕ
  pub within : place < length followed
  pub is : slice_index followed place ≡ variable
  pub true_there : place < kept → literal_value trail (record { variable = variable; positive = true }) ≡ Some true

-- The requirement with this index is active, inactive, or met.
abbrev pub IsHeld : List ℕ → List (List ℕ) → List (List ℕ) → List ℕ → ℕ → Trail → List Literal → ℕ → Type 0
IsHeld active inactive met followed kept trail clause index =
    Contains active index ⊎ (IsInactive inactive trail kept clause index ⊎ IsMetBy met trail followed kept clause index)

-- the first `kept` places of the trail were followed, and are unchanged
pub record IsFollowing (queue : DecideQueue) (trail : Trail) : Type 0 where
  pub followed : queue.kept ≤ length queue.followed.items
  pub reached : queue.kept ≤ length_of trail
  pub same : (place : ℕ) → place < queue.kept → slice_index queue.followed.items place ≡ variable_at trail place

-- The queue follows the trail, each requirement is in one of its lists, and the requirement that was last found
-- left to decide was so.
pub record IsQueued (queue : DecideQueue) (trail : Trail) (table : List (List Literal)) (requirements : List StoredRequirement) : Type 0 where
  pub following : IsFollowing queue trail
  pub each : (index : ℕ) (d : StoredRequirement) → index < length requirements →
      IsHeld queue.active.items queue.inactive queue.met queue.followed.items queue.kept trail
      (clause_at table (slice_index_or requirements index d).number) index
  pub last : (last : LastOpen) → queue.last ≡ Some last → IsLastOpen last queue.kept trail table requirements

-- for all requirements, the queue still follows the trail and has the requirements
abbrev pub StaysQueuedOn : Trail → DecideQueue → DecideQueue → Type 0
StaysQueuedOn trail old new = (table : List (List Literal)) (requirements : List StoredRequirement) → IsQueued old trail table requirements →
    IsQueued new trail table requirements

-- the same for every trail
abbrev pub StaysQueued : DecideQueue → DecideQueue → Type 0
StaysQueued old new = (trail : Trail) → StaysQueuedOn trail old new

-- the queue has one more requirement, with this index
abbrev pub QueuesNext : ℕ → DecideQueue → DecideQueue → Type 0
QueuesNext index old new = (trail : Trail) (table : List (List Literal)) (requirements : List StoredRequirement) (requirement : StoredRequirement) →
    index ≡ length requirements → IsQueued old trail table requirements → IsQueued new trail table (requirements ++ requirement ∷ [])

-- the queue follows every trail that keeps this many of the places that were followed
abbrev pub FollowsCut : ℕ → DecideQueue → DecideQueue → Type 0
FollowsCut count old new = (before after : Trail) (table : List (List Literal)) (requirements : List StoredRequirement) →
    KeepsPlaces before after count → IsQueued old before table requirements → IsQueued new after table requirements

-- if the requirement with this index was the last one found left to decide, its clause has been open since
abbrev pub IsOpenIfLast : DecideQueue → Trail → List Literal → ℕ → Type 0
IsOpenIfLast queue trail clause index = (last : LastOpen) → queue.last ≡ Some last → last.requirement ≡ index →
    IsOpenSince trail clause last.first last.count

-- each requirement is met
abbrev pub AllMet : Trail → List (List Literal) → List StoredRequirement → Type 0
AllMet trail table requirements = All (λ (requirement : StoredRequirement). IsMet trail (clause_at table requirement.number)) requirements

-- the whole trail was followed
pub record IsFollowed (queue : DecideQueue) (trail : Trail) : Type 0 where
  pub all : queue.kept ≡ length_of trail
  pub none_else : length queue.followed.items ≡ queue.kept

-- where this is the first candidate of the requirement with this index, and the whole trail was followed, the requirements stay queued
abbrev pub StaysQueuedAt : Trail → (index first : ℕ) → DecideQueue → DecideQueue → Type 0
StaysQueuedAt trail index first old new = (table : List (List Literal)) (requirements : List StoredRequirement) (d : StoredRequirement) →
    index < length requirements → IsFirstUnassigned trail (clause_at table (slice_index_or requirements index d).number) first → IsFollowed old trail →
    IsQueued old trail table requirements → IsQueued new trail table requirements
