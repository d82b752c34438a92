-- A trail as a list of atoms, the latest first, and the reason of each atom.
use Rattle.std.specs.Prelude.{◌≡◌, ◌⊎◌, Bool, true, false, not, List, [], ◌∷◌, ◌++◌, Option, Contains, All}
use Rattle.resolver_clause_store.specs.Universe.{Universe, Demands}
use Rattle.resolver_clause_store.specs.Candidates.{requirement_candidates}
use Rattle.resolver_clause_store.specs.Lists.{IsWithin}
use Rattle.resolver_clause_store.specs.Reached.{IsReached, AllReached}
use Rattle.resolver_clause_store.specs.Valid.{IsValid}
use Rattle.resolver_clause_store.specs.declared.Requirement.{Requirement}
use Rattle.resolver_clause_store.specs.declared.By.{By}
use Rattle.resolver_clause_store.specs.declared.Origin.{Origin}
use Rattle.resolver_clause_store.specs.declared.Origin.TheVariants.{Solvable, Helper}
use Rattle.resolver_clause_store.specs.declared.Helper.TheVariants.{Condition}
use Rattle.resolver_clause_store.specs.declared.ClauseKind.{ClauseKind}
use Rattle.resolver_clause_store.specs.declared.ClauseKind.TheVariants.{Requires}
use Rattle.resolver_encoding.specs.Atoms.{Atom, Disjunct, atom, atoms_of, is_satisfied, parent_of}
use Rattle.resolver_encoding.specs.Read.{CoversChosen}

-- the clause is true under all values that satisfy the clauses of the encoding
pub record IsEntailed {N S : Type 0} (u : Universe N S) (kinds : List (ClauseKind N S)) (clause : List (Atom N S)) : Type 0 where
  pub holds : (value : Origin N S → Bool) → ((k : ClauseKind N S) → Contains kinds k → is_satisfied value (atoms_of u k) ≡ true) →
      is_satisfied value clause ≡ true

-- the solvable is the first candidate of the requirement that is not false
pub record IsFirstOpen {N S : Type 0} (u : Universe N S) (earlier : List (Atom N S)) (r : Requirement) (s : S) : Type 0 where
  pub before : List S
  pub after : List S
  pub is : requirement_candidates u r ≡ before ++ s ∷ after
  pub closed : (x : S) → Contains before x → Contains earlier (atom (Solvable x) false)

-- why the atom comes after these on the trail
pub data IsBecause {N S : Type 0} (u : Universe N S) (kinds : List (ClauseKind N S)) (seeds refused : List S) (earlier : List (Atom N S)) : Atom N S →
    Type 0 where
  -- a candidate of an active requirement
  needed : (parent : Option (By S)) (disjunct : Disjunct) (r : Requirement) (s : S) → Contains kinds (Requires parent disjunct r) →
      Contains earlier (atom (parent_of parent r) true) →
      All (λ v. Contains earlier (atom (Helper (Condition v)) true)) disjunct.items → IsFirstOpen u earlier r s →
      IsBecause u kinds seeds refused earlier (atom (Solvable s) true)
  -- a soft requirement, accepted or refused
  seeded : (s : S) → Contains seeds s → IsBecause u kinds seeds refused earlier (atom (Solvable s) true)
  left_out : (s : S) → Contains refused s → IsBecause u kinds seeds refused earlier (atom (Solvable s) false)
  -- all other literals of the clause are false
  forced : (clause : List (Atom N S)) (a : Atom N S) → IsEntailed u kinds clause →
      ((b : Atom N S) → Contains clause b → (b ≡ a) ⊎ Contains earlier (atom b.origin (not b.positive))) → IsBecause u kinds seeds refused earlier a

pub data IsTrail {N S : Type 0} (u : Universe N S) (kinds : List (ClauseKind N S)) (seeds refused : List S) : List (Atom N S) → Type 0 where
  begun : IsTrail u kinds seeds refused []
  went_on : {earlier : List (Atom N S)} (a : Atom N S) → IsTrail u kinds seeds refused earlier → IsBecause u kinds seeds refused earlier a →
      IsTrail u kinds seeds refused (a ∷ earlier)

-- the trail gives this value to the origin
abbrev pub Takes : {N S : Type 0} → List (Atom N S) → Origin N S → Bool → Type 0
Takes trail o b = Contains trail (atom o b)

-- the chosen solvables are those that the trail makes true
pub record IsChosenBy {N S : Type 0} (trail : List (Atom N S)) (chosen : List S) : Type 0 where
  pub each_true : (s : S) → Contains chosen s → Contains trail (atom (Solvable s) true)
  pub each_chosen : (s : S) → Contains trail (atom (Solvable s) true) → Contains chosen s

-- the clauses cover the rules of every part of the chosen solvables that is reached by need
abbrev pub CoversReached : {N S : Type 0} → Universe N S → Demands → List (ClauseKind N S) → (chosen seeds exempt : List S) → Type 0
CoversReached {N} {S} u root kinds chosen seeds exempt =
    (part : List S) → IsWithin part chosen → ((s : S) → Contains part s → IsReached u root chosen seeds s) → CoversChosen u root kinds part exempt

-- the chosen solvables answer the problem, and each is reached by need
pub record IsAnswerBy {N S : Type 0} (u : Universe N S) (root : Demands) (chosen seeds exempt : List S) : Type 0 where
  pub valid : IsValid u root chosen exempt
  pub reached : AllReached u root chosen seeds
