-- What contracts see of a table of variables.
use Rattle.std.specs.Prelude.{ℕ, List}
use Rattle.resolver_clause_store.specs.declared.kinds.Origin.{Origin}

-- what each variable stands for, and the limit on their number
pub record KnownVariables (N S : Type 0) : Type 0 where
  pub origins : List (Origin N S)
  pub limit : ℕ
