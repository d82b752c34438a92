-- A trail of variables as a trail of their origins.
use Rattle.std.specs.Prelude.{ℕ, zero, suc, ◌≡◌, ◌<◌, ◌≤◌, Bool, true, false, List, [], ◌∷◌, ◌++◌, Contains, length, slice_get, slice_index_or, map, Option}
use Rattle.std.specs.Prelude.{Some, None}
use Rattle.std.specs.Option.{option_map_or}
use Rattle.resolver_clause_store.specs.TrailView.{length_of, slot_of, variable_at}
use Rattle.resolver_clause_store.specs.Literals.{Literal}
use Rattle.resolver_clause_store.specs.declared.Origin.{Origin}
use Rattle.resolver_clause_store.specs.declared.Origin.TheVariants.{Root, Solvable}
use Rattle.resolver_clause_store.specs.declared.Reason.TheVariants.{Assumed}
use Rattle.resolver_clause_store.specs.declared.Slot.{Slot}
use Rattle.resolver_clause_store.specs.declared.Trail.{Trail}
use Rattle.resolver_encoding.specs.Atoms.{Atom, atom}
use Rattle.resolver_encoding.specs.declared.chosen.Chosen.{Chosen}

-- the origin of a variable
abbrev pub origin_at : {N S : Type 0} → List (Origin N S) → ℕ → Origin N S
origin_at origins variable = slice_index_or origins variable Root

-- the value of a variable, `false` if it has none
abbrev pub value_of : Trail → ℕ → Bool
value_of trail variable = option_map_or (λ (slot : Slot). slot.value) (slot_of trail variable) false

-- the atom of the entry at a place
abbrev pub entry_at : {N S : Type 0} → List (Origin N S) → Trail → ℕ → Atom N S
entry_at origins trail place = atom (origin_at origins (variable_at trail place)) (value_of trail (variable_at trail place))

-- the atoms of the first entries, the latest first
abbrev pub atoms_before : {N S : Type 0} → List (Origin N S) → Trail → ℕ → List (Atom N S)
atoms_before origins trail zero = []
atoms_before origins trail (suc place) = entry_at origins trail place ∷ atoms_before origins trail place

-- each assumed variable stands for a solvable: for a seed if it is true, and for a refused one if it is false
pub record AreAssumed {N S : Type 0} (origins : List (Origin N S)) (seeds refused : List S) (trail : Trail) : Type 0 where
  pub taken : (variable : ℕ) (slot : Slot) → slot_of trail variable ≡ Some slot → slot.reason ≡ Assumed → slot.value ≡ true → (s : S) ×
      (origin_at origins variable ≡ Solvable s) × Contains seeds s
  pub left_out : (variable : ℕ) (slot : Slot) → slot_of trail variable ≡ Some slot → slot.reason ≡ Assumed → slot.value ≡ false → (s : S) ×
      (origin_at origins variable ≡ Solvable s) × Contains refused s

-- the atoms of a clause's literals
abbrev pub atoms_by : {N S : Type 0} → List (Origin N S) → List Literal → List (Atom N S)
atoms_by origins literals = map (λ (l : Literal). atom (origin_at origins l.variable) l.positive) literals

-- the solvable, if the origin is one and the value is true
abbrev pub solvable_if : {N S : Type 0} → Origin N S → Bool → List S
solvable_if (Solvable s) true = s ∷ []
solvable_if o b = []

-- the solvable, if the origin is one
abbrev pub solvable_found : {N S : Type 0} → Option (Origin N S) → Option S
solvable_found (Some (Solvable s)) = Some s
solvable_found o = None

-- the solvables that the first entries make true, in the order of the trail
abbrev pub solvables_before : {N S : Type 0} → List (Origin N S) → Trail → ℕ → List S
solvables_before origins trail zero = []
solvables_before origins trail (suc place) = solvables_before origins trail place ++
    solvable_if (origin_at origins (variable_at trail place)) (value_of trail (variable_at trail place))

-- the solvables that the list has
abbrev pub chosen_in : {S : Type 0} → Chosen S → List S
chosen_in c = c.solvables.keys

-- the first `count` entries of the trail were followed: the list has the solvables that they make true, and for each of
-- these entries the number of solvables before it
pub record Follows {N S : Type 0} (c : Chosen S) (origins : List (Origin N S)) (trail : Trail) (count : ℕ) : Type 0 where
  pub size : length c.counts.items ≡ count
  pub inside : count ≤ length_of trail
  pub is : chosen_in c ≡ solvables_before origins trail count
  pub counts : (k : ℕ) → k < count → slice_get c.counts.items k ≡ Some (length (solvables_before origins trail k))
