-- Solvables grouped by the names of their packages.
use Rattle.std.specs.Prelude.{ℕ, ◌≡◌, ◌<◌, ◌≤◌, ◌⊎◌, List, [], Some, length, slice_get}
use Rattle.resolver_clause_store.specs.NumberedLists.{list_of}
use Rattle.resolver_clause_store.specs.Variables.{AreDistinct}

-- the names, and the group of each by the place of its name
pub record Groups (N S : Type 0) : Type 0 where
  pub names : List N
  pub members : List (List S)

-- each name has one group, and there are no other groups
pub record AreSound {N S : Type 0} (names : List N) (members : List (List S)) : Type 0 where
  pub distinct : AreDistinct names
  pub unused : (place : ℕ) → length names ≤ place → list_of members place ≡ []

-- a name that is new stands at this place, which has no members yet
abbrev pub IsNewAt : {N S : Type 0} → Groups N S → Groups N S → ℕ → Type 0
IsNewAt {N} old new place = (k : ℕ) (n : N) → slice_get new.names k ≡ Some n →
    (slice_get old.names k ≡ Some n) ⊎ ((k ≡ place) × (list_of old.members k ≡ []))

-- the solvable has this number in the group of the name
pub record IsAt {N S : Type 0} (g : Groups N S) (n : N) (number : ℕ) (s : S) : Type 0 where
  pub place : ℕ
  pub named : slice_get g.names place ≡ Some n
  pub only : (other : ℕ) → slice_get g.names other ≡ Some n → other ≡ place
  pub at : slice_get (list_of g.members place) number ≡ Some s

-- the solvable is in the group of the name
abbrev pub IsInGroup : {N S : Type 0} → Groups N S → N → S → Type 0
IsInGroup g n s = (number : ℕ) × IsAt g n number s

-- one more solvable is in the group of the name; its number follows the others
pub record AddsNamed {N S : Type 0} (old new : Groups N S) (n : N) (s : S) : Type 0 where
  pub number : ℕ
  pub here : IsAt new n number s
  pub earlier : (m : N) (k : ℕ) (t : S) → IsAt old m k t → IsAt new m k t
  pub only : (m : N) (k : ℕ) (t : S) → IsAt new m k t → IsAt old m k t ⊎ ((m ≡ n) × (k ≡ number) × (t ≡ s))
  pub below : (k : ℕ) (t : S) → IsAt old n k t → k < number
