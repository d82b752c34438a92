-- The extension of a set makes the clauses true.
use Rattle.resolver_encoding.specs.Truth.{HasLawfulSolvables}
use Rattle.std.proofs.Common.{◌≡◌, ◌<◌, ℕ, List, Bool, true, false, ap, subst, Contains, All, length, get_or, arith}
use Rattle.std.specs.Prelude.{Some, slice_get}
use Rattle.std.specs.Option.{option_map_or}
use Rattle.std.specs.Bool.{beq}
use Rattle.std.proofs.lemmas.List.Elements.{Contains-get_or}
use Rattle.std.proofs.lemmas.Option.{slice_get-get_or}
use Rattle.resolver_clause_store.specs.Formula.{clause_at, clause_true, Satisfies}
use Rattle.resolver_clause_store.specs.Universe.{Universe, Demands}
use Rattle.resolver_clause_store.specs.Valid.{IsValid}
use Rattle.resolver_clause_store.specs.Literals.{Literal}
use Rattle.resolver_clause_store.specs.declared.Origin.{Origin}
use Rattle.resolver_clause_store.specs.declared.ClauseKind.{ClauseKind}
use Rattle.resolver_clause_store.specs.declared.ClauseKind.TheVariants.{InstallRoot}
use Rattle.resolver_encoding.specs.Truth.{AreCodes, follows, IsTrueClause, Spares}
use Rattle.resolver_encoding.specs.Atoms.{Atom, is_on, is_satisfied, atoms_of}
use Rattle.resolver_encoding.specs.Values.{AreAtoms, extension, AreEncoded}
use Rattle.resolver_encoding.proofs.Satisfied.{satisfied}
use Rattle.resolver_clause_store.proofs.FormulaLemmas.{clause_at-get_or}
use Rattle.resolver_clause_store.proofs.ListLemmas.{list_any-contains, list_any-witness}
use Rattle.resolver_encoding.proofs.Sound.{defines, valid_obeys}

-- variables with the values of their origins make a clause true if its atoms make it true
pub clause_true-atoms : {N S : Type 0} (origins : List (Origin N S)) (value : Origin N S → Bool) (values : ℕ → Bool) →
    ((x : ℕ) (o : Origin N S) → slice_get origins x ≡ Some o → values x ≡ value o) →
    (literals : List Literal) (atoms : List (Atom N S)) → AreAtoms origins literals atoms → is_satisfied value atoms ≡ true → clause_true values literals ≡ true
clause_true-atoms origins value values agree literals atoms are holds =
    let w = list_any-witness (λ a. beq (value a.origin) a.positive) atoms holds in
    let l = are.each_atom w.0 w.1 in
    list_any-contains (λ (l : Literal). beq (values l.variable) l.positive) literals l.0 l.1
    (rw (agree l.0.variable w.0.origin l.2.origin, l.2.positive) w.2)

-- the values that variables get from the values of their origins
abbrev pub values_by : {N S : Type 0} → List (Origin N S) → (Origin N S → Bool) → ℕ → Bool
values_by origins value x = option_map_or value (slice_get origins x) false

pub values_by-origin : {N S : Type 0} (origins : List (Origin N S)) (value : Origin N S → Bool) (x : ℕ) (o : Origin N S) → slice_get origins x ≡ Some o →
    values_by origins value x ≡ value o
values_by-origin origins value x o e = ap (λ p. option_map_or value p false) e

module _ {N S : Type 0} (u : Universe N S) (origins : List (Origin N S)) (table : List (List Literal)) (kinds : List (ClauseKind N S))
    (encoded : AreEncoded u origins table kinds) (value : Origin N S → Bool) where
  -- the variables make a clause true if the atoms of its kind do
  pub clause_by_kind : (n : ℕ) (kind : ClauseKind N S) → slice_get kinds n ≡ Some kind → is_satisfied value (atoms_of u kind) ≡ true →
      clause_true (values_by origins value) (clause_at table n) ≡ true
  clause_by_kind n kind e holds =
      clause_true-atoms origins value (values_by origins value) (values_by-origin origins value) (clause_at table n) (atoms_of u kind)
      (encoded.each n kind e).atoms holds

  pub table_by_kinds : ((k : ClauseKind N S) → Contains kinds k → is_satisfied value (atoms_of u k) ≡ true) → Satisfies (values_by origins value) table
  table_by_kinds all = λ n d below.
      let inside : n < length kinds = omega (arith, encoded.count) in
      let kind : ClauseKind N S = get_or kinds n InstallRoot in
      let is : slice_get kinds n ≡ Some kind = slice_get-get_or kinds n InstallRoot inside in
      let True : List Literal → Type 0 = λ c. clause_true (values_by origins value) c ≡ true in
      subst True (clause_at-get_or table n d below)
      (clause_by_kind n kind is (all kind (Contains-get_or kinds n InstallRoot inside)))

-- the extension of an answer satisfies the clauses
pub valid_satisfies : {N S : Type 0} (u : Universe N S) (codes : N → ℕ → S → Bool) (root : Demands) (origins : List (Origin N S))
    (table : List (List Literal)) (kinds : List (ClauseKind N S)) (set exempt : List S) →
    HasLawfulSolvables u → AreCodes u codes → AreEncoded u origins table kinds → All (IsTrueClause u codes root) kinds → Spares u exempt kinds →
    IsValid u root set exempt → Satisfies (extension u (follows u codes) origins set) table
valid_satisfies u codes root origins table kinds set exempt lawful are_codes encoded are_true spares ok =
    table_by_kinds u origins table kinds encoded (is_on u (follows u codes) set)
    (satisfied u (follows u codes) lawful.same_solvable set kinds (defines u root kinds codes are_codes are_true lawful.same_solvable)
    (valid_obeys u root kinds codes are_codes are_true lawful.same_solvable set exempt ok spares))
