-- The view of a table of variables.
use Rattle.std.specs.Prelude.{◌≡◌, ℕ, List, Some, length, slice_get}
use Rattle.resolver_clause_store.specs.declared.kinds.Origin.{Origin}
use Rattle.resolver_clause_store.specs.declared.variables.Variables.{Variables}

-- what each variable stands for
abbrev pub origins_in : {N S : Type 0} → Variables N S → List (Origin N S)
origins_in v = v.origins

-- the limit on the number of variables
abbrev pub limit_in : {N S : Type 0} → Variables N S → ℕ
limit_in v = v.limit

-- no two places have the same element
pub record AreDistinct {X : Type 0} (xs : List X) : Type 0 where
  pub same : (i k : ℕ) (x : X) → slice_get xs i ≡ Some x → slice_get xs k ≡ Some x → i ≡ k

-- each place keeps its element
pub record Keeps {X : Type 0} (old new : List X) : Type 0 where
  pub kept : (k : ℕ) (x : X) → slice_get old k ≡ Some x → slice_get new k ≡ Some x

-- the number of variables, no two of them alike, is at its limit
pub record AreFull {N S : Type 0} (v : Variables N S) : Type 0 where
  pub count : length (origins_in v) ≡ limit_in v
  pub distinct : AreDistinct (origins_in v)
