-- A search over clauses, and its results.
use Rattle.std.specs.Prelude.{◌≡◌, ℕ, ◌+◌, ◌-◌, ◌<◌, ◌≤◌, Some, List, length, map, slice_index, All, ◌++◌, ◌∷◌, []}
use Rattle.resolver_clause_store.specs.Literals.{Literal}
use Rattle.resolver_clause_store.specs.declared.RequirementClause.{RequirementClause}
use Rattle.resolver_clause_store.specs.declared.StoredRequirement.{StoredRequirement}
use Rattle.resolver_clause_store.specs.declared.Reason.TheVariants.{Assumed, Forced}
use Rattle.resolver_clause_store.specs.declared.Slot.{Slot}
use Rattle.resolver_clause_store.specs.declared.Trail.{Trail}
use Rattle.resolver_clause_store.specs.Formula.{AreBelow, clause_at}
use Rattle.resolver_clause_store.specs.Outcomes.{IsCore, IsFinished, IsImplied}
use Rattle.resolver_clause_store.specs.TrailView.{Gains, IsUndone, KeepsPlaces, length_of, level_of, slot_of, variable_count}
use Rattle.resolvo.specs.declared.clause_search.ClauseSearch.{ClauseSearch}
use Rattle.resolvo.specs.declared.clause_search.Outcome.{Outcome}
use Rattle.resolvo.specs.declared.clause_search.Outcome.TheVariants.{Finished, Contradiction, Refused}
use Rattle.resolvo.specs.Sources.{Source}
use Rattle.resolvo.specs.Propagation.{AreChosen, AssumesNone, IsJustified}
use Rattle.resolvo.specs.Propagators.{IsPropagator}
use Rattle.resolvo.specs.Derivations.{AreGiven, IsDerived, given_at}
use Rattle.resolvo.specs.Resolvents.{IsFalseAt}
use Rattle.resolvo.specs.Steps.{EndsDecided, HasNoNext}
use Rattle.resolver_clause_store.specs.Queues.{IsQueued}

-- the trail, which has the values that were found
abbrev pub trail_of : ClauseSearch → Trail
trail_of it = it.trail

-- the number of learnt clauses, which are those that were not given
abbrev pub learnt_count_of : ClauseSearch → ℕ
learnt_count_of it = length it.table - length it.places

-- the number of clauses, given and learnt
abbrev pub clause_count_of : ClauseSearch → ℕ
clause_count_of it = length it.table

-- the number of first entries of the trail that have not changed since it was last bookmarked
abbrev pub kept_of : ClauseSearch → ℕ
kept_of it = it.kept

-- the level of the present assumption, or 0 if there is none
abbrev pub base_of : ClauseSearch → ℕ
base_of it = it.base

-- the number of first entries of the trail that are not undone in the present turn
abbrev pub held_of : ClauseSearch → ℕ
held_of it = it.held

-- the numbers of the requirement clauses
abbrev pub numbers_of : List RequirementClause → List ℕ
numbers_of requirements = map (λ (requirement : RequirementClause). requirement.number) requirements

-- the places of the requirement clauses
abbrev pub stored_places : List StoredRequirement → List ℕ
stored_places requirements = map (λ (requirement : StoredRequirement). requirement.number) requirements

-- the place in the table of the given clause with this number
abbrev pub given_place : List ℕ → ℕ → ℕ
given_place places number = slice_index places number

-- the given clauses are in the table, each at its place
pub record AreLoaded (given table : List (List Literal)) (sources : List Source) (places : List ℕ) : Type 0 where
  pub count : length places ≡ length given
  pub placed : (number : ℕ) → number < length given → given_at sources (given_place places number) ≡ Some number
  pub are : AreGiven given table sources

-- The search was given these clauses, of which those with these numbers are requirement clauses. It decides exactly
-- those, by their places.
pub record IsLoaded (given : List (List Literal)) (numbers : List ℕ) (it : ClauseSearch) : Type 0 where
  pub clauses : AreLoaded given it.table it.sources it.places
  pub requirements : stored_places it.requirements.items ≡ map (given_place it.places) numbers
  pub inside : All (λ number. number < length given) numbers

-- The first entries of the trail are held: their levels are not above the base, so they stay when the levels above it
-- are undone. All of them but the last one were there when the trail was last bookmarked.
pub record IsTurn (trail : Trail) (base held kept : ℕ) : Type 0 where
  pub inside : held ≤ length_of trail
  pub low : (variable : ℕ) (slot : Slot) → slot_of trail variable ≡ Some slot → slot.place < held → slot.level ≤ base
  pub some : 0 < base → 0 < held
  pub bookmarked : held ≤ kept + 1

-- the invariant of the search
pub record IsConsistent (it : ClauseSearch) : Type 0 where
  pub below : AreBelow (variable_count it.trail) it.table
  pub derived : IsDerived it.table it.sources
  pub justified : IsJustified it.table it.trail
  pub chosen : AreChosen it.table it.requirements.items it.trail
  pub inside : All (λ (requirement : StoredRequirement). requirement.number < length it.table) it.requirements.items
  pub places : All (λ place. place < length it.table) it.places
  pub count : length it.places ≤ length it.table
  pub kept : it.kept ≤ length_of it.trail
  pub propagator : IsPropagator it.table it.trail it.propagator
  pub turn : IsTurn it.trail it.base it.held it.kept
  pub queued : IsQueued it.queue it.trail it.table it.requirements.items

-- the earlier clauses stay
pub record KeepsClauses (old new : List (List Literal)) : Type 0 where
  pub longer : length old ≤ length new
  pub same : (number : ℕ) → number < length old → clause_at new number ≡ clause_at old number

-- if the first `count` entries of the old trail are those of some trail, so are the first `left` entries of the new one
abbrev pub KeepsFirst : Trail → ℕ → Trail → ℕ → Type 0
KeepsFirst old count new left = (base : Trail) → KeepsPlaces base old count → KeepsPlaces base new left

-- the number of first entries that have not changed since the last bookmark is still right
abbrev pub KeepsBookmark : ClauseSearch → ClauseSearch → Type 0
KeepsBookmark old new = KeepsFirst (trail_of old) (kept_of old) (trail_of new) (kept_of new)

-- the turn is the same, and the held entries of the trail stay
pub record KeepsTurn (old new : ClauseSearch) : Type 0 where
  pub base : base_of new ≡ base_of old
  pub held : held_of new ≡ held_of old
  pub assumed : AssumesNone (trail_of old) (trail_of new)
  pub places : KeepsFirst (trail_of old) (held_of old) (trail_of new) (held_of new)

-- nothing was assumed
pub record IsRootTurn (it : ClauseSearch) : Type 0 where
  pub base : base_of it ≡ 0
  pub none : (variable : ℕ) (slot : Slot) → slot_of (trail_of it) variable ≡ Some slot → slot.reason ≡ Assumed → ⊥

-- whatever was loaded stays loaded
abbrev pub KeepsLoaded : ClauseSearch → ClauseSearch → Type 0
KeepsLoaded old new = (given : List (List Literal)) (numbers : List ℕ) → IsLoaded given numbers old → IsLoaded given numbers new

-- this clause is loaded after those that were
abbrev pub LoadsClause : ClauseSearch → ClauseSearch → List Literal → Type 0
LoadsClause old new clause = (given : List (List Literal)) (numbers : List ℕ) → IsLoaded given numbers old → IsLoaded (given ++ clause ∷ []) numbers new

-- these clauses are loaded, of which the first ones were
abbrev pub LoadsClauses : ClauseSearch → ClauseSearch → List (List Literal) → Type 0
LoadsClauses old new all = (given : List (List Literal)) (numbers : List ℕ) (more : List (List Literal)) → IsLoaded given numbers old → all ≡ given ++ more →
    IsLoaded all numbers new

-- the same for numbers of requirement clauses
abbrev pub LoadsRequirement : ClauseSearch → ClauseSearch → ℕ → Type 0
LoadsRequirement old new number = (given : List (List Literal)) (numbers : List ℕ) → IsLoaded given numbers old → IsLoaded given (numbers ++ number ∷ []) new

abbrev pub LoadsRequirements : ClauseSearch → ClauseSearch → List ℕ → Type 0
LoadsRequirements old new all = (given : List (List Literal)) (numbers more : List ℕ) → IsLoaded given numbers old → all ≡ numbers ++ more → IsLoaded given all new

-- the same for both
abbrev pub LoadsAll : ClauseSearch → ClauseSearch → List (List Literal) → List ℕ → Type 0
LoadsAll old new clauses all = (given : List (List Literal)) (numbers : List ℕ) → IsLoaded given numbers old → (more : List (List Literal)) →
    clauses ≡ given ++ more → (more_numbers : List ℕ) → all ≡ numbers ++ more_numbers → IsLoaded clauses all new

-- the search has the same given clauses, requirements and variables
pub record IsSameProblem (old new : ClauseSearch) : Type 0 where
  pub loaded : KeepsLoaded old new
  pub variables : variable_count (trail_of new) ≡ variable_count (trail_of old)
  pub kept : KeepsBookmark old new
  pub turn : KeepsTurn old new

-- no variable got a value
pub record SetsNone (old new : Trail) : Type 0 where
  pub was : (variable : ℕ) (slot : Slot) → slot_of new variable ≡ Some slot → slot_of old variable ≡ Some slot

-- a trail that is the same as when it was bookmarked stays the same
abbrev pub StaysBookmarked : ClauseSearch → ClauseSearch → Type 0
StaysBookmarked old new = kept_of old ≡ length_of (trail_of old) → kept_of new ≡ length_of (trail_of new)

-- more may be loaded, and nothing was learnt
pub record IsSameSearch (old new : ClauseSearch) : Type 0 where
  pub set : SetsNone (trail_of old) (trail_of new)
  pub bookmarked : StaysBookmarked old new
  pub variables : variable_count (trail_of new) ≡ variable_count (trail_of old)
  pub learnt : learnt_count_of new ≡ learnt_count_of old
  pub kept : KeepsBookmark old new
  pub turn : KeepsTurn old new

-- the levels above this one are undone, and then the clause with this number forces the literal
pub record IsBacktrack (old new : Trail) (literal : Literal) (level number : ℕ) : Type 0 where
  pub middle : Trail
  pub undone : IsUndone old middle level
  pub gains : Gains middle new literal (level_of middle) (Forced number)

-- a clause that the given ones imply is false by the assumption and the values held before it alone
pub record IsRefused (given : List (List Literal)) (trail : Trail) (base : ℕ) : Type 0 where
  pub turn : 0 < base
  pub clause : List Literal
  pub implied : IsImplied given clause
  pub low : All (IsFalseAt trail base) clause

-- One of three results: values that leave nothing to force and nothing to decide, for any requirement clauses with
-- these numbers; given clauses that no values make true together; or a clause that is false at the base.
abbrev pub OutcomeIs : List (List Literal) → List ℕ → ClauseSearch → Outcome → Type 0
OutcomeIs given numbers it Finished = (requirements : List RequirementClause) → numbers_of requirements ≡ numbers → IsFinished given requirements (trail_of it)
OutcomeIs given numbers it (Contradiction core) = IsCore given core.items
OutcomeIs given numbers it Refused = IsRefused given (trail_of it) (base_of it)

-- the same, for all that was loaded
abbrev pub HasOutcome : ClauseSearch → ClauseSearch → Outcome → Type 0
HasOutcome old new outcome = (given : List (List Literal)) (numbers : List ℕ) → IsLoaded given numbers old → OutcomeIs given numbers new outcome

-- the last thing that the search did is a decision
abbrev pub HasDecided : ClauseSearch → Type 0
HasDecided search = EndsDecided (trail_of search) search.table search.requirements.items

-- the search has nothing to decide as it stands
abbrev pub IsStalled : ClauseSearch → Type 0
IsStalled search = HasNoNext (trail_of search) search.table search.requirements.items
