-- The clauses that watch each literal.
use Rattle.std.specs.Prelude.{◌≡◌, ◌≢◌, ◌⊎◌, ℕ, ◌+◌, ◌<◌, ◌==◌, ◌++◌, ◌∷◌, Bool, true, false, Some, List, [], length, All, Contains, slice_get}
use Rattle.std.specs.Prelude.{slice_index_or, slice_set, count_by, if◌then◌else◌}
use Rattle.resolver_clause_store.specs.Literals.{Literal, is_literal, list_number}
use Rattle.resolver_clause_store.specs.NumberedLists.{PutsList}
use Rattle.resolver_clause_store.specs.Formula.{clause_at}
use Rattle.resolver_clause_store.specs.declared.watches.Watch.{Watch}
use Rattle.resolver_clause_store.specs.declared.pairs.WatchedPair.{WatchedPair}

-- the content of a list
abbrev pub list_at : List (List Watch) → ℕ → List Watch
list_at lists list = slice_index_or lists list []

-- the watches of a literal
abbrev pub watches_at : List (List Watch) → Literal → List Watch
watches_at lists literal = list_at lists (list_number literal)

-- the watch at a place of a literal's list is replaced
abbrev pub PutsWatch : List (List Watch) → List (List Watch) → Literal → ℕ → Watch → Type 0
PutsWatch old new literal place watch = PutsList old new (list_number literal) (slice_set (watches_at old literal) place watch)

-- stands for the watch behind the end of a list
abbrev pub no_watch : Watch
no_watch = record { number = 0; blocker = record { variable = 0; positive = false }; is_binary = false; start = 0 }

-- the watch at a place of a list
abbrev pub watch_at : List Watch → ℕ → Watch
watch_at list place = slice_index_or list place no_watch

-- a new watch of a clause
abbrev pub new_watch : ℕ → Literal → Bool → Watch
new_watch number blocker is_binary = record { number = number; blocker = blocker; is_binary = is_binary; start = 0 }

-- the watch with another blocker
abbrev pub with_blocker : Watch → Literal → Watch
with_blocker watch blocker =
    record { number = watch.number; blocker = blocker; is_binary = watch.is_binary; start = watch.start }

-- a clause with this pair watches nothing
abbrev pub WatchesNothing : WatchedPair → Type 0
WatchesNothing pair = pair.first ≡ pair.second

-- the pair of a clause that watches nothing
abbrev pub unwatched : WatchedPair
unwatched = record { first = no_watch.blocker; second = no_watch.blocker }

-- the literals that a clause watches
abbrev pub pair_at : List WatchedPair → ℕ → WatchedPair
pair_at pairs number = slice_index_or pairs number unwatched

-- the pair with its first literal replaced if it is `from`, and otherwise its second one
abbrev pub replaced : WatchedPair → Literal → Literal → WatchedPair
replaced pair from to =
    if is_literal pair.first from then record { first = to; second = pair.second } else record { first = pair.first; second = to }

-- the number of times that a clause is in a list
unfoldable pub entry_count : List (List Watch) → ℕ → ℕ → ℕ
entry_count lists list number = count_by (λ (watch : Watch). watch.number == number) (list_at lists list)

-- 1 if both are the same, and otherwise 0
unfoldable pub same : ℕ → ℕ → ℕ
same a b = if a == b then 1 else 0

-- the number of times that the clause of a pair has to be in a list
unfoldable pub pair_count : WatchedPair → ℕ → ℕ
pair_count pair list =
    if is_literal pair.first pair.second then 0 else same (list_number pair.first) list + same (list_number pair.second) list

-- each clause is in the lists of the literals that it watches, once for each, and in no other list
abbrev pub IsWatched : List (List Watch) → List WatchedPair → Type 0
IsWatched lists pairs = (list number : ℕ) → entry_count lists list number ≡ pair_count (pair_at pairs number) list

-- the pair has two different literals, and this is one of them
pub record HasLiteral (pair : WatchedPair) (literal : Literal) : Type 0 where
  pub differ : pair.first ≢ pair.second
  pub is : (pair.first ≡ literal) ⊎ (pair.second ≡ literal)

-- the clause watches the literal
abbrev pub IsWatching : List WatchedPair → ℕ → Literal → Type 0
IsWatching pairs number literal = HasLiteral (pair_at pairs number) literal

-- the blocker is a literal of the clause, and a clause that is called binary has two literals
pub record FitsClause (table : List (List Literal)) (watch : Watch) : Type 0 where
  pub own : Contains (clause_at table watch.number) watch.blocker
  pub two : watch.is_binary ≡ true → length (clause_at table watch.number) ≡ 2

-- each watch fits its clause
abbrev pub FitClauses : List (List Literal) → List (List Watch) → Type 0
FitClauses table lists = (list : ℕ) → All (λ (watch : Watch). FitsClause table watch) (list_at lists list)

-- each watch still fits its clause, if the blocker stands in the clause
abbrev pub KeepsFit : List (List Watch) → List (List Watch) → ℕ → Literal → Type 0
KeepsFit old new number blocker =
    (table : List (List Literal)) → Contains (clause_at table number) blocker → FitClauses table old → FitClauses table new

-- the same for a new clause, if it has both literals of the pair that it watches
abbrev pub KeepsFitWith : List (List Watch) → List (List Watch) → WatchedPair → ℕ → Bool → Type 0
KeepsFitWith old new pair number is_binary = (table : List (List Literal)) →
    (pair.first ≢ pair.second → Contains (clause_at table number) pair.first × Contains (clause_at table number) pair.second) →
    (is_binary ≡ true → length (clause_at table number) ≡ 2) → FitClauses table old → FitClauses table new

-- the clause watches these two literals
abbrev pub IsPair : WatchedPair → Literal → Literal → Type 0
IsPair pair one other = (pair ≡ record { first = one; second = other }) ⊎ (pair ≡ record { first = other; second = one })

-- the watches of a clause, with each other's literals as blockers, were put into the lists of its two literals
pub record PutsBoth (old new : List (List Watch)) (pair : WatchedPair) (number : ℕ) (is_binary : Bool) : Type 0 where
  pub between : List (List Watch)
  pub first : PutsList old between (list_number pair.first)
      (list_at old (list_number pair.first) ++ new_watch number pair.second is_binary ∷ [])
  pub second : PutsList between new (list_number pair.second)
      (list_at between (list_number pair.second) ++ new_watch number pair.first is_binary ∷ [])

-- the lists have the same clauses at the same places
pub record SameClauses (old new : List (List Watch)) : Type 0 where
  pub size : length new ≡ length old
  pub count : (list : ℕ) → length (list_at new list) ≡ length (list_at old list)
  pub back : (list place : ℕ) (watch : Watch) → slice_get (list_at new list) place ≡ Some watch → (was : Watch) ×
      (slice_get (list_at old list) place ≡ Some was) × (was.number ≡ watch.number)

-- the clause with this number, which was at a place of the list of one literal, watches another literal instead
pub record MovesWatch (old new : List (List Watch)) (before after : List WatchedPair) (from to : Literal) (place number : ℕ) : Type 0 where
  pub size : length new ≡ length old
  pub attached : length after ≡ length before
  pub others : (other : ℕ) → other ≢ number → pair_at after other ≡ pair_at before other
  pub here : (kept : Literal) → from ≢ kept → IsPair (pair_at before number) from kept → IsPair (pair_at after number) to kept
  pub shorter : length (list_at new (list_number from)) + 1 ≡ length (list_at old (list_number from))
  pub first : (k : ℕ) → k < place → slice_get (list_at new (list_number from)) k ≡ slice_get (list_at old (list_number from)) k
