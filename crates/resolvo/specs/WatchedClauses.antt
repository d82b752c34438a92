-- Each stored clause is in the lists of the two literals that it watches.
use Rattle.std.specs.Prelude.{◌≡◌, ℕ, ◌+◌, ◌<◌, List, length}
use Rattle.resolver_clause_store.specs.Literals.{Literal, list_number}
use Rattle.resolver_clause_store.specs.declared.WatchedPair.{WatchedPair}
use Rattle.resolver_clause_store.specs.declared.Watches.{Watches}
use Rattle.resolver_clause_store.specs.Formula.{clause_at}
use Rattle.resolver_clause_store.specs.Watches.{entry_count, pair_at, same}
use Rattle.resolver_clause_store.specs.WatchesView.{lists_of, pairs_of}
use Rattle.resolvo.specs.Attaching.{AreDistinctLiterals}

-- if the clause has two different literals, the pair is two of them
abbrev pub OwnsPair : List Literal → WatchedPair → Type 0
OwnsPair clause pair = (one other : Literal) → AreDistinctLiterals clause one other → AreDistinctLiterals clause pair.first pair.second

-- the same for each clause of the table
abbrev pub AreOwned : List (List Literal) → List WatchedPair → Type 0
AreOwned table pairs = (number : ℕ) → number < length table → OwnsPair (clause_at table number) (pair_at pairs number)

-- The clause watches two different literals of its own. It is in their lists, once in each, and in no other list.
pub record StandsInTwo (clause : List Literal) (watches : Watches) (number : ℕ) : Type 0 where
  pub first : Literal
  pub second : Literal
  pub is : pair_at (pairs_of watches) number ≡ record { first = first; second = second }
  pub apart : AreDistinctLiterals clause first second
  pub once : (list : ℕ) → entry_count (lists_of watches) list number ≡ same (list_number first) list + same (list_number second) list

-- the same for each clause of the table with two different literals
abbrev pub AreInLists : List (List Literal) → Watches → Type 0
AreInLists table watches = (number : ℕ) → number < length table → (one other : Literal) → AreDistinctLiterals (clause_at table number) one other →
    StandsInTwo (clause_at table number) watches number
