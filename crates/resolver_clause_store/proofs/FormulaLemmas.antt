-- Clauses of a table, and clauses under values.
use Rattle.std.proofs.Common.{◌≡◌, ℕ, zero, suc, ◌<◌, ◌≤◌, List, [], ◌∷◌, ◌++◌, length, get_or, Bool, true, false, arith, refl}
use Rattle.std.specs.Prelude.{Some, not, slice_get}
use Rattle.std.specs.Bool.{beq}
use Rattle.std.specs.List.{All, AllByRecursion, Contains}
use Rattle.std.proofs.Math.ListN.{get_or-append}
use Rattle.std.proofs.Math.Seq.{get_or-append_seam}
use Rattle.std.proofs.lemmas.Bool.{or_from, or_parts}
use Rattle.std.proofs.lemmas.List.Elements.{All-contains, All-from_recursion, recursion_from_All}
use Rattle.std.proofs.lemmas.Option.{get_or_from_slice_get, slice_get-get_or}
use Rattle.resolver_clause_store.specs.Literals.{Literal}
use Rattle.resolver_clause_store.specs.Formula.{clause_at, clause_true, literal_true}

pub clause_at-get_or : (table : List (List Literal)) (number : ℕ) (d : List Literal) → number < length table →
    clause_at table number ≡ get_or table number d
clause_at-get_or table number d within = get_or_from_slice_get table number (get_or table number d) [] (slice_get-get_or table number d within)

-- the clause that a look-up finds
pub clause_at-found : (table : List (List Literal)) (number : ℕ) (clause : List Literal) → slice_get table number ≡ Some clause →
    clause_at table number ≡ clause
clause_at-found table number clause found = get_or_from_slice_get table number clause [] found

pub clause_at-past : (table : List (List Literal)) (number : ℕ) → length table ≤ number → clause_at table number ≡ []
clause_at-past [] number past = refl
clause_at-past (clause ∷ table) zero past = absurd (omega arith)
clause_at-past (clause ∷ table) (suc number) past = clause_at-past table number (omega arith)

pub clause_at-push : (table : List (List Literal)) (clause : List Literal) (number : ℕ) → number < length table →
    clause_at (table ++ clause ∷ []) number ≡ clause_at table number
clause_at-push table clause number within = get_or-append table (clause ∷ []) [] number within

pub clause_at-last : (table : List (List Literal)) (clause : List Literal) → clause_at (table ++ clause ∷ []) (length table) ≡ clause
clause_at-last table clause = get_or-append_seam table clause [] []

-- the first clauses of a table
pub clause_at-append : (table rest : List (List Literal)) (number : ℕ) → number < length table → clause_at (table ++ rest) number ≡ clause_at table number
clause_at-append table rest number within = get_or-append table rest [] number within

-- a clause without a true literal is false
pub false-by_recursion : (values : ℕ → Bool) (clause : List Literal) → AllByRecursion (λ literal. literal_true values literal ≡ false) clause →
    clause_true values clause ≡ false
false-by_recursion values [] all = refl
false-by_recursion values (literal ∷ rest) all = or_from _ _ all.0 (false-by_recursion values rest all.1)

pub clause-false : (values : ℕ → Bool) (clause : List Literal) → All (λ literal. literal_true values literal ≡ false) clause → clause_true values clause ≡ false
clause-false values clause all = false-by_recursion values clause (recursion_from_All (λ literal. literal_true values literal ≡ false) clause all)

-- the literals of a false clause are false
pub false-each : (values : ℕ → Bool) (clause : List Literal) → clause_true values clause ≡ false →
    AllByRecursion (λ literal. literal_true values literal ≡ false) clause
false-each values [] is = tt
false-each values (literal ∷ rest) is = let parts = or_parts _ _ is in (parts.0, false-each values rest parts.1)

pub false-contains : (values : ℕ → Bool) (clause : List Literal) (literal : Literal) → clause_true values clause ≡ false → Contains clause literal →
    literal_true values literal ≡ false
false-contains values clause literal is inside =
    All-contains (λ literal. literal_true values literal ≡ false) clause literal
    (All-from_recursion (λ literal. literal_true values literal ≡ false) clause (false-each values clause is)) inside

pub beq-not : (a b : Bool) → beq a (not b) ≡ false → a ≡ b
beq-not true true is = refl
beq-not true false is = cc
beq-not false true is = cc
beq-not false false is = refl

pub beq-false : (a b : Bool) → beq a b ≡ false → b ≡ not a
beq-false true true is = cc
beq-false true false is = refl
beq-false false true is = refl
beq-false false false is = cc
