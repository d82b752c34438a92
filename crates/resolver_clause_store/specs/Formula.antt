-- Literals and clauses under values of the variables.
use Rattle.std.specs.Prelude.{◌≡◌, ℕ, ◌<◌, Bool, true, List, [], slice_index_or, All}
use Rattle.std.specs.List.{list_any}
use Rattle.std.specs.Bool.{beq}
use Rattle.resolver_clause_store.specs.Literals.{Literal}

-- the literal is true under the values
abbrev pub literal_true : (ℕ → Bool) → Literal → Bool
literal_true values literal = beq (values literal.variable) literal.positive

-- some literal of the clause is true
abbrev pub clause_true : (ℕ → Bool) → List Literal → Bool
clause_true values clause = list_any (literal_true values) clause

-- the literals of the clause with this number, none if there is no such clause
abbrev pub clause_at : List (List Literal) → ℕ → List Literal
clause_at table number = slice_index_or table number []

-- the values make each clause with one of these numbers true
abbrev pub MakesTrue : (ℕ → Bool) → List (List Literal) → List ℕ → Type 0
MakesTrue values table numbers = All (λ number. clause_true values (clause_at table number) ≡ true) numbers

-- the clause is true whenever the clauses with these numbers are
abbrev pub FollowsFrom : List (List Literal) → List ℕ → List Literal → Type 0
FollowsFrom table numbers clause =
    (values : ℕ → Bool) → MakesTrue values table numbers → clause_true values clause ≡ true

-- the values make every clause true
abbrev pub Satisfies : (ℕ → Bool) → List (List Literal) → Type 0
Satisfies values table = All (λ (clause : List Literal). clause_true values clause ≡ true) table

-- each variable of the clause is below this number
abbrev pub IsBelow : ℕ → List Literal → Type 0
IsBelow variables clause = All (λ (literal : Literal). literal.variable < variables) clause

-- each variable of each clause is below this number
abbrev pub AreBelow : ℕ → List (List Literal) → Type 0
AreBelow variables table = (number : ℕ) → IsBelow variables (clause_at table number)
