-- Solvables that the chosen set leaves no room for.
use Rattle.std.specs.Prelude.{◌≡◌, ℕ, Bool, true, false, Contains, List, Some, slice_get}
use Rattle.resolver_clause_store.specs.Formula.{Satisfies}
use Rattle.resolver_clause_store.specs.Literals.{Literal}
use Rattle.resolver_clause_store.specs.declared.Origin.{Origin}
use Rattle.resolver_clause_store.specs.declared.Origin.TheVariants.{Solvable}

-- the values make each solvable of the set true
abbrev pub AreTrueIn : {N S : Type 0} → (ℕ → Bool) → List (Origin N S) → List S → Type 0
AreTrueIn {N} {S} values origins set = (variable : ℕ) (s : S) → Contains set s → slice_get origins variable ≡ Some (Solvable s) → values variable ≡ true

-- The solvable is false under all values that satisfy the clauses and make the set true. Neither answers nor exemptions
-- are named, so this stays true when clauses are added and the set grows.
pub record IsLeftOut {N S : Type 0} (origins : List (Origin N S)) (table : List (List Literal)) (set : List S) (s : S) : Type 0 where
  pub variable : ℕ
  pub stands : slice_get origins variable ≡ Some (Solvable s)
  pub never : (values : ℕ → Bool) → Satisfies values table → AreTrueIn values origins set → values variable ≡ false
