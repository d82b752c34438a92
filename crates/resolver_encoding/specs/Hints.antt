-- Candidates that are read early, because their dependencies are available.
use Rattle.std.specs.Prelude.{◌≡◌, ℕ, ◌<◌, ◌≤◌, List, [], Contains, All, length, slice_get}
use Rattle.std.specs.Option.{option_map_or}
use Rattle.resolver_clause_store.specs.Caches.{Covers}
use Rattle.resolver_clause_store.specs.Universe.{Universe, hint_none}
use Rattle.resolver_encoding.specs.Atoms.{wanted}
use Rattle.resolver_encoding.specs.Encodings.{Notes}

-- the candidates that the clause with this number lists
abbrev pub candidates_at : {N S : Type 0} → Universe N S → Notes N S → ℕ → List S
candidates_at u notes number = option_map_or (wanted u) (slice_get notes.kinds number) []

-- a clause from this number on lists the solvable
pub record IsListedFrom {N S : Type 0} (u : Universe N S) (notes : Notes N S) (from : ℕ) (s : S) : Type 0 where
  pub place : ℕ
  pub later : from ≤ place
  pub below : place < length notes.kinds
  pub listed : Contains (candidates_at u notes place) s

-- the provider hints that the dependencies of the solvable are available
abbrev pub IsHinted : {N S : Type 0} → Universe N S → S → Type 0
IsHinted u s = Covers (u.package_named (u.name s)).hint s

-- the provider hints at the dependencies of no solvable of the package
abbrev pub HintsAtNone : {N S : Type 0} → Universe N S → N → Type 0
HintsAtNone u n = (u.package_named n).hint ≡ hint_none

-- each hinted solvable of the list was read
abbrev pub AreReadIfHinted : {N S : Type 0} → Universe N S → Notes N S → List S → Type 0
AreReadIfHinted u notes list = All (λ s. IsHinted u s → Contains notes.read s) list

-- each hinted candidate of the clauses between these numbers was read
pub record AreHintsReadTo {N S : Type 0} (u : Universe N S) (from until : ℕ) (notes : Notes N S) : Type 0 where
  pub each : (place : ℕ) → from ≤ place → place < until → AreReadIfHinted u notes (candidates_at u notes place)

-- each hinted candidate of the clauses from this number on was read
abbrev pub AreHintsRead : {N S : Type 0} → Universe N S → ℕ → Notes N S → Type 0
AreHintsRead u from notes = AreHintsReadTo u from (length notes.kinds) notes
