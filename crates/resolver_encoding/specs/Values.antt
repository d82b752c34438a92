-- Clauses as lists of literals, compared with their kinds.
use Rattle.std.specs.Prelude.{◌≡◌, ◌+◌, ℕ, Bool, false, List, [], ◌∷◌, Some, Contains, length, map, slice_get, slice_index_or, ⊤}
use Rattle.std.specs.List.{AllZip}
use Rattle.std.specs.Option.{option_map_or}
use Rattle.resolver_clause_store.specs.Formula.{clause_at}
use Rattle.resolver_clause_store.specs.Universe.{Universe}
use Rattle.resolver_clause_store.specs.Literals.{Literal}
use Rattle.resolver_clause_store.specs.declared.Helper.{Helper as HelperOf}
use Rattle.resolver_clause_store.specs.declared.Origin.{Origin}
use Rattle.resolver_clause_store.specs.declared.ClauseKind.{ClauseKind}
use Rattle.resolver_clause_store.specs.declared.ClauseKind.TheVariants.{InstallRoot, Requires}
use Rattle.resolver_encoding.specs.Atoms.{Atom, is_on, atoms_of}

-- the literal has this atom
pub record IsAtom {N S : Type 0} (origins : List (Origin N S)) (literal : Literal) (a : Atom N S) : Type 0 where
  pub origin : slice_get origins literal.variable ≡ Some a.origin
  pub positive : literal.positive ≡ a.positive

-- the literals have these atoms
pub record AreAtoms {N S : Type 0} (origins : List (Origin N S)) (literals : List Literal) (atoms : List (Atom N S)) : Type 0 where
  pub each_literal : (l : Literal) → Contains literals l → (a : Atom N S) × Contains atoms a × IsAtom origins l a
  pub each_atom : (a : Atom N S) → Contains atoms a → (l : Literal) × Contains literals l × IsAtom origins l a

-- the literals of a requirement clause are in the order of its atoms
abbrev pub AreInOrder : {N S : Type 0} → Universe N S → List (Origin N S) → List Literal → ClauseKind N S → Type 0
AreInOrder u origins literals (Requires parent disjunct r) = AllZip (IsAtom origins) literals (atoms_of u (Requires parent disjunct r))
AreInOrder u origins literals kind = ⊤

-- the literals are those of a clause of this kind
pub record IsClauseOf {N S : Type 0} (u : Universe N S) (origins : List (Origin N S)) (literals : List Literal) (kind : ClauseKind N S) : Type 0 where
  pub atoms : AreAtoms origins literals (atoms_of u kind)
  pub in_order : AreInOrder u origins literals kind

-- the clauses of the table are of these kinds, one each
pub record AreEncoded {N S : Type 0} (u : Universe N S) (origins : List (Origin N S)) (table : List (List Literal))
    (kinds : List (ClauseKind N S)) : Type 0 where
  pub count : length table ≡ length kinds
  pub each : (n : ℕ) (kind : ClauseKind N S) → slice_get kinds n ≡ Some kind → IsClauseOf u origins (clause_at table n) kind

-- the value of each variable under a set
abbrev pub extension : {N S : Type 0} → Universe N S → (HelperOf N → S → Bool) → List (Origin N S) → List S → ℕ → Bool
extension u implies origins set variable = option_map_or (is_on u implies set) (slice_get origins variable) false

-- the kinds of the clauses with these numbers
abbrev pub kinds_at : {N S : Type 0} → List (ClauseKind N S) → List ℕ → List (ClauseKind N S)
kinds_at kinds numbers = map (λ n. slice_index_or kinds n InstallRoot) numbers

-- the numbers of the requirement clauses among clauses of these kinds, numbered from here on
abbrev pub numbers_from : {N S : Type 0} → ℕ → List (ClauseKind N S) → List ℕ
numbers_from number [] = []
numbers_from number (Requires parent disjunct r ∷ kinds) = number ∷ numbers_from (number + 1) kinds
numbers_from number (kind ∷ kinds) = numbers_from (number + 1) kinds

-- the numbers of the requirement clauses
abbrev pub requirement_numbers : {N S : Type 0} → List (ClauseKind N S) → List ℕ
requirement_numbers kinds = numbers_from 0 kinds
