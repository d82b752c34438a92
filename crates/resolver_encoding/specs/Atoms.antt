-- Clauses as lists of atoms, and what they state about sets of solvables. An atom is a literal over origins: what a
-- variable stands for, and the value that makes the literal true.
use Rattle.std.specs.Prelude.{ℕ, ◌≡◌, Bool, true, false, List, [], ◌∷◌, ◌++◌, Contains, Option, Some, None, Vec, map}
use Rattle.std.specs.List.{list_any}
use Rattle.std.specs.Bool.{beq}
use Rattle.std.specs.declared.alloc.Global.{Global}
use Rattle.resolver_clause_store.specs.Universe.{Universe}
use Rattle.resolver_clause_store.specs.Candidates.{matching, requirement_candidates}
use Rattle.resolver_clause_store.specs.declared.Requirement.{Requirement}
use Rattle.resolver_clause_store.specs.declared.VersionSetId.{VersionSetId}
use Rattle.resolver_clause_store.specs.declared.By.{By}
use Rattle.resolver_clause_store.specs.declared.By.TheVariants.{Root as ByRoot, Solvable as BySolvable}
use Rattle.resolver_clause_store.specs.declared.Origin.{Origin}
use Rattle.resolver_clause_store.specs.declared.Origin.TheVariants.{Root, Solvable, Helper}
use Rattle.resolver_clause_store.specs.declared.Helper.{Helper as HelperOf}
use Rattle.resolver_clause_store.specs.declared.Helper.TheVariants.{Bit, Gate, Constraint, Condition}
use Rattle.resolver_clause_store.specs.declared.ClauseKind.{ClauseKind}
use Rattle.resolver_clause_store.specs.declared.ClauseKind.TheVariants.{InstallRoot, Requires, Implies, Constrains, Lock, Excluded}
use Rattle.resolver_clause_store.specs.Statements.{Statement, requires, constrains, lock, excluded, one_per_package}

pub record Atom (N S : Type 0) : Type 0 where
  pub origin : Origin N S
  pub positive : Bool

abbrev pub atom : {N S : Type 0} → Origin N S → Bool → Atom N S
atom o b = record { origin = o; positive = b }

-- the version sets of a disjunct
abbrev pub Disjunct : Type 0
Disjunct = Vec VersionSetId Global

-- the origin of the root or of a solvable
abbrev pub origin_by : {N S : Type 0} → By S → Origin N S
origin_by ByRoot = Root
origin_by (BySolvable s) = Solvable s

-- the origin of who has a requirement: the root, a solvable, or the requirement's gate
abbrev pub parent_of : {N S : Type 0} → Option (By S) → Requirement → Origin N S
parent_of (Some by) requirement = origin_by by
parent_of None requirement = Helper (Gate requirement)

-- the origin of what a constraint excludes: a candidate, or the constraint's helper
abbrev pub excluded_of : {N S : Type 0} → Option S → VersionSetId → Origin N S
excluded_of (Some s) version_set = Solvable s
excluded_of None version_set = Helper (Constraint version_set)

-- if the requirer is true, and so are the helpers of these version sets, one of the candidates is
abbrev pub requirement_atoms : {N S : Type 0} → Origin N S → List VersionSetId → List S → List (Atom N S)
requirement_atoms parent disjunct candidates =
    atom parent false ∷ (map (λ v. atom (Helper (Condition v)) false) disjunct ++ map (λ s. atom (Solvable s) true) candidates)

-- the atoms of a clause, by its kind
abbrev pub atoms_of : {N S : Type 0} → Universe N S → ClauseKind N S → List (Atom N S)
atoms_of u InstallRoot = atom Root true ∷ []
atoms_of u (Requires parent disjunct requirement) =
    requirement_atoms (parent_of parent requirement) disjunct.items (requirement_candidates u requirement)
atoms_of u (Implies candidate helper value) = atom (Solvable candidate) false ∷ atom (Helper helper) value ∷ []
atoms_of u (Constrains parent version_set candidate) = atom (origin_by parent) false ∷ atom (excluded_of candidate version_set) false ∷ []
atoms_of u (Lock locked forbidden) = atom Root false ∷ atom (Solvable forbidden) false ∷ []
atoms_of u (Excluded solvable reason) = atom (Solvable solvable) false ∷ []

-- the candidates that a requirement clause lists; no other clause lists any
abbrev pub wanted : {N S : Type 0} → Universe N S → ClauseKind N S → List S
wanted u (Requires parent disjunct requirement) = requirement_candidates u requirement
wanted u kind = []

-- whether the set has the solvable
abbrev pub has : {N S : Type 0} → Universe N S → List S → S → Bool
has u set s = list_any (u.same_solvable s) set

-- the value that a set gives to an origin; `implies` says which solvables imply a helper
abbrev pub is_on : {N S : Type 0} → Universe N S → (HelperOf N → S → Bool) → List S → Origin N S → Bool
is_on u implies set Root = true
is_on u implies set (Solvable s) = has u set s
is_on u implies set (Helper h) = list_any (implies h) set

-- whether the values make an atom of the list true
abbrev pub is_satisfied : {N S : Type 0} → (Origin N S → Bool) → List (Atom N S) → Bool
is_satisfied value atoms = list_any (λ a. beq (value a.origin) a.positive) atoms

-- the statements that a list of clauses makes
pub data IsStated {N S : Type 0} (u : Universe N S) (implies : HelperOf N → S → Bool) (kinds : List (ClauseKind N S)) : Statement N S → Type 0 where
  states_requires : (by : By S) (disjunct : Disjunct) (requirement : Requirement) → Contains kinds (Requires (Some by) disjunct requirement) →
      IsStated u implies kinds (requires by requirement (requirement_candidates u requirement) (map (matching u) disjunct.items))
  states_constrains : (by : By S) (v : VersionSetId) (s : S) → Contains kinds (Constrains by v (Some s)) → IsStated u implies kinds (constrains by v s)
  -- a gate makes a statement for each solvable that implies it
  states_gated : (s : S) (disjunct : Disjunct) (requirement : Requirement) → Contains kinds (Requires None disjunct requirement) →
      implies (Gate requirement) s ≡ true →
      IsStated u implies kinds (requires (BySolvable s) requirement (requirement_candidates u requirement) [])
  states_helped : (by : By S) (v : VersionSetId) (s : S) → Contains kinds (Constrains by v None) → implies (Constraint v) s ≡ true →
      IsStated u implies kinds (constrains by v s)
  states_coded : (n : N) (s : S) (i : ℕ) (b : Bool) → Contains kinds (Implies s (Bit n i) b) → IsStated u implies kinds (one_per_package n s)
  states_bit : (n : N) (s : S) (i : ℕ) → implies (Bit n i) s ≡ true → IsStated u implies kinds (one_per_package n s)
  states_lock : (s t : S) → Contains kinds (Lock s t) → IsStated u implies kinds (lock s t)
  states_excluded : (s : S) (reason : _) → Contains kinds (Excluded s reason) → IsStated u implies kinds (excluded s reason)

-- `implies` agrees with the clauses that define helpers
pub record Defines {N S : Type 0} (u : Universe N S) (implies : HelperOf N → S → Bool) (kinds : List (ClauseKind N S)) : Type 0 where
  pub defined : (s : S) (h : HelperOf N) (b : Bool) → Contains kinds (Implies s h b) → implies h s ≡ b
  pub bit : (s : S) (h : HelperOf N) → Contains kinds (Implies s h false) → (n : N) × (i : ℕ) × (h ≡ Bit n i)
  pub matched : (v : VersionSetId) (s : S) → implies (Condition v) s ≡ true → Contains (matching u v) s
