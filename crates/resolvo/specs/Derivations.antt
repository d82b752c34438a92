-- The origins of clauses, and the clauses that learnt ones follow from.
use Rattle.std.specs.Prelude.{◌≡◌, ◌≢◌, ℕ, ◌<◌, ◌≤◌, Bool, true, false, Option, Some, None, List, [], length, All, slice_get, slice_set, Contains}
use Rattle.std.specs.Option.{option_map_or}
use Rattle.resolver_clause_store.specs.Literals.{Literal}
use Rattle.resolver_clause_store.specs.Formula.{clause_at, clause_true, FollowsFrom}
use Rattle.resolvo.specs.Sources.{Source}
use Rattle.resolvo.specs.Sources.{given_as, learnt_from}
use Rattle.resolvo.specs.Resolvents.{IsDrawn, is_marked}

-- the number of the given clause, if it is one
abbrev pub number_of : Source → Option ℕ
number_of (given_as number) = Some number
number_of (learnt_from causes) = None

-- the causes of a learnt clause
abbrev pub causes_of : Source → List ℕ
causes_of (given_as number) = []
causes_of (learnt_from causes) = causes

-- the number of the given clause at this place of the table, or `None` if the clause there is learnt
abbrev pub given_at : List Source → ℕ → Option ℕ
given_at sources place = option_map_or number_of (slice_get sources place) None

-- the causes of the clause at this place of the table
abbrev pub causes_at : List Source → ℕ → List ℕ
causes_at sources place = option_map_or causes_of (slice_get sources place) []

-- each learnt clause follows from its causes, which are earlier in the table
pub record IsDerived (table : List (List Literal)) (sources : List Source) : Type 0 where
  pub count : length sources ≡ length table
  pub earlier : (place : ℕ) → place < length table → All (λ cause. cause < place) (causes_at sources place)
  pub follows : (place : ℕ) → place < length table → given_at sources place ≡ None → FollowsFrom table (causes_at sources place) (clause_at table place)
  pub drawn : (place : ℕ) → place < length table → given_at sources place ≡ None → All (IsDrawn table (causes_at sources place)) (clause_at table place)

-- these are the clauses of the table that are not learnt
pub record AreGiven (given table : List (List Literal)) (sources : List Source) : Type 0 where
  pub within : (place number : ℕ) → given_at sources place ≡ Some number → number < length given
  pub same : (place number : ℕ) → given_at sources place ≡ Some number → clause_at table place ≡ clause_at given number

-- the given clause with this number is in the table
pub record Stands (sources : List Source) (number : ℕ) : Type 0 where
  pub place : ℕ
  pub is : given_at sources place ≡ Some number

-- these numbers are marked in addition to the old ones, and no others
pub record MarksNumbers (old new : List Bool) (numbers : List ℕ) : Type 0 where
  pub size : length new ≡ length old
  pub kept : (number : ℕ) → is_marked old number ≡ true → is_marked new number ≡ true
  pub all : All (λ number. is_marked new number ≡ true) numbers
  pub only : (number : ℕ) → is_marked old number ≡ false → All (λ other. other ≢ number) numbers → is_marked new number ≡ false

-- if the clause at this place is learnt, its causes are marked in its place; a given one stays marked
pub record Replaces (old new : List Bool) (sources : List Source) (place : ℕ) : Type 0 where
  pub given : (number : ℕ) → given_at sources place ≡ Some number → new ≡ old
  pub learnt : given_at sources place ≡ None → MarksNumbers (slice_set old place false) new (causes_at sources place)

-- the number of the given clause at this place is listed in addition to the old ones, if the place is marked
pub record AddsMarked (old new : List ℕ) (sources : List Source) (marks : List Bool) (place : ℕ) : Type 0 where
  pub kept : (number : ℕ) → Contains old number → Contains new number
  pub only : All (Stands sources) old → All (Stands sources) new
  pub added : (number : ℕ) → is_marked marks place ≡ true → given_at sources place ≡ Some number → Contains new number

-- the numbers of all given clauses at marked places before `bound` are listed
abbrev pub ListsMarked : List Source → List Bool → List ℕ → ℕ → Type 0
ListsMarked sources marks numbers bound =
    (place number : ℕ) → place < bound → is_marked marks place ≡ true → given_at sources place ≡ Some number → Contains numbers number

-- no values make all marked clauses true, and those at or above the bound are given ones
pub record MarkedRefute (table : List (List Literal)) (sources : List Source) (marks : List Bool) (bound : ℕ) : Type 0 where
  pub size : length marks ≡ length table
  pub apart : (values : ℕ → Bool) → ((place : ℕ) → is_marked marks place ≡ true → clause_true values (clause_at table place) ≡ true) → ⊥
  pub given : (place : ℕ) → bound ≤ place → is_marked marks place ≡ true → (number : ℕ) × (given_at sources place ≡ Some number)
