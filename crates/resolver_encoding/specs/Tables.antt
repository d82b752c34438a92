-- Tables of clauses, and the step that adds a clause.
use Rattle.std.specs.Prelude.{ℕ, ◌≡◌, ◌⊎◌, List, [], ◌∷◌, ◌++◌, length}
use Rattle.resolver_clause_store.specs.Universe.{Universe}
use Rattle.resolver_clause_store.specs.Variables.{AreDistinct}
use Rattle.resolver_clause_store.specs.declared.ClauseKind.{ClauseKind}
use Rattle.resolver_clause_store.specs.Literals.{Literal}
use Rattle.resolver_clause_store.specs.declared.Origin.{Origin}
use Rattle.resolver_encoding.specs.Encodings.{Grows}
use Rattle.resolver_encoding.specs.Values.{IsClauseOf}

-- the origin of each variable; the literals and the kind of each clause; and the limits of variables and clauses
pub record Table (N S : Type 0) : Type 0 where
  pub origins : List (Origin N S)
  pub literals : List (List Literal)
  pub kinds : List (ClauseKind N S)
  pub variable_limit : ℕ
  pub clause_limit : ℕ

-- the table has as many variables, no two alike, or as many clauses, as its limit
abbrev pub IsTableFull : {N S : Type 0} → Table N S → Type 0
IsTableFull t = ((length t.origins ≡ t.variable_limit) × AreDistinct t.origins) ⊎ (length t.kinds ≡ t.clause_limit)

-- the table with one clause more
abbrev pub with_clause : {N S : Type 0} → ClauseKind N S → List Literal → Table N S → Table N S
with_clause kind literals t = record t {
  literals = t.literals ++ literals ∷ [];
  kinds = t.kinds ++ kind ∷ [];
}

-- one more clause was added, with the literals of its kind
pub record HasAdded {N S : Type 0} (u : Universe N S) (kind : ClauseKind N S) (old new : Table N S) : Type 0 where
  pub origins : Grows old.origins new.origins
  pub literals : List Literal
  pub clause : IsClauseOf u new.origins literals kind
  pub is : new ≡ record (with_clause kind literals old) { origins = new.origins }
