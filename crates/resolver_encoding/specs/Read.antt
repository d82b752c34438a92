-- When the clauses cover all that the provider's rules state about a set, and when no literal is left to set.
use Rattle.std.specs.Prelude.{ℕ, ◌≡◌, ◌≢◌, ◌⊎◌, Bool, true, false, not, List, [], None, Option, Some, Contains, All, map}
use Rattle.resolver_clause_store.specs.Universe.{Universe, Demands, unknown}
use Rattle.resolver_clause_store.specs.Candidates.{matching, others, requirement_candidates}
use Rattle.resolver_clause_store.specs.Conditions.{IsActive}
use Rattle.resolver_clause_store.specs.Valid.{IsLockedOut}
use Rattle.resolver_clause_store.specs.declared.ConditionalRequirement.{ConditionalRequirement}
use Rattle.resolver_clause_store.specs.declared.Requirement.{Requirement}
use Rattle.resolver_clause_store.specs.declared.VersionSetId.{VersionSetId}
use Rattle.resolver_clause_store.specs.declared.StringId.{StringId}
use Rattle.resolver_clause_store.specs.declared.By.{By}
use Rattle.resolver_clause_store.specs.declared.By.TheVariants.{Solvable as BySolvable}
use Rattle.resolver_clause_store.specs.Statements.{IsPresent, AllMeet}
use Rattle.resolver_clause_store.specs.TrueRules.{demands_by}
use Rattle.resolver_clause_store.specs.declared.Origin.{Origin}
use Rattle.resolver_clause_store.specs.declared.Origin.TheVariants.{Root, Solvable, Helper}
use Rattle.resolver_clause_store.specs.declared.Helper.{Helper as HelperOf}
use Rattle.resolver_clause_store.specs.declared.Helper.TheVariants.{Bit, Gate, Constraint, Condition}
use Rattle.resolver_clause_store.specs.declared.ClauseKind.{ClauseKind}
use Rattle.resolver_clause_store.specs.declared.ClauseKind.TheVariants.{InstallRoot, Requires, Implies, Constrains, Lock, Excluded}
use Rattle.resolver_encoding.specs.Atoms.{Atom, Disjunct, atom, atoms_of, parent_of}

-- values, of which an origin may have none: no clause is false, none forces a helper without a value, and no
-- requirement is left to decide
pub record AreValuesSettled {N S : Type 0} (u : Universe N S) (kinds : List (ClauseKind N S)) (Takes : Origin N S → Bool → Type 0) : Type 0 where
  pub apart : (o : Origin N S) → Takes o true → Takes o false → ⊥
  pub root_taken : Takes Root true
  pub no_false : (k : ClauseKind N S) → Contains kinds k → ((b : Atom N S) → Contains (atoms_of u k) b → Takes b.origin (not b.positive)) → ⊥
  -- for helpers only: a watched clause may leave open a solvable that it forces
  pub unit : (k : ClauseKind N S) (h : HelperOf N) (value : Bool) → Contains kinds k → Contains (atoms_of u k) (atom (Helper h) value) →
      ((b : Atom N S) → Contains (atoms_of u k) b → (b ≡ atom (Helper h) value) ⊎ Takes b.origin (not b.positive)) → Takes (Helper h) value
  pub decided : (parent : Option (By S)) (disjunct : Disjunct) (r : Requirement) → Contains kinds (Requires parent disjunct r) →
      Takes (parent_of parent r) true → All (λ v. Takes (Helper (Condition v)) true) disjunct.items → (s : S) × Contains (requirement_candidates u r) s ×
      Takes (Solvable s) true

-- the clause of a gate
abbrev pub HasGate : {N S : Type 0} → List (ClauseKind N S) → Requirement → Type 0
HasGate kinds r = (disjunct : Disjunct) × (disjunct.items ≡ []) × Contains kinds (Requires None disjunct r)

-- the clauses of a requirement that holds in the set: a clause of its own, or those of its gate
pub data IsMade {N S : Type 0} (u : Universe N S) (kinds : List (ClauseKind N S)) (chosen : List S) (by : By S) (r : Requirement) : Type 0 where
  made_direct : (disjunct : Disjunct) → AllMeet chosen (map (matching u) disjunct.items) → Contains kinds (Requires (Some by) disjunct r) →
      IsMade u kinds chosen by r
  made_gated : (s : S) → by ≡ BySolvable s → Contains kinds (Implies s (Gate r) true) → HasGate kinds r → IsMade u kinds chosen by r

-- the clauses of a constraint that forbid a candidate
pub data IsForbidden {N S : Type 0} (kinds : List (ClauseKind N S)) (by : By S) (v : VersionSetId) (s : S) : Type 0 where
  forbidden_direct : Contains kinds (Constrains by v (Some s)) → IsForbidden kinds by v s
  forbidden_helped : Contains kinds (Constrains by v None) → Contains kinds (Implies s (Constraint v) true) → IsForbidden kinds by v s

-- the clauses that keep two instances of a package apart
pub data AreApart {N S : Type 0} (kinds : List (ClauseKind N S)) (n : N) (s t : S) : Type 0 where
  apart_coded : (i : ℕ) (b : Bool) → Contains kinds (Implies s (Bit n i) b) → Contains kinds (Implies t (Bit n i) (not b)) → AreApart kinds n s t

-- the clauses cover all that the rules of the root and of the chosen solvables state about the chosen ones
pub record CoversChosen {N S : Type 0} (u : Universe N S) (root : Demands) (kinds : List (ClauseKind N S)) (chosen exempt : List S) : Type 0 where
  pub installs : Contains kinds InstallRoot
  -- each active requirement has its clause under a disjunct that holds, or the clauses of its gate
  pub requirements : (by : By S) (r : ConditionalRequirement) → IsPresent by chosen → Contains (demands_by u root by).requirements r →
      IsActive u (Contains chosen) r →
      IsMade u kinds chosen by r.requirement
  -- each matching solvable implies the condition helper
  pub helpers : (parent : Option (By S)) (disjunct : Disjunct) (r : Requirement) → Contains kinds (Requires parent disjunct r) → (v : VersionSetId) →
      Contains disjunct.items v → (s : S) → Contains (matching u v) s → Contains kinds (Implies s (Condition v) true)
  pub constraints : (by : By S) (v : VersionSetId) (s : S) → IsPresent by chosen → Contains (demands_by u root by).constraints v → Contains (others u v) s →
      Contains chosen s →
      IsForbidden kinds by v s
  pub instances : (s t : S) → Contains chosen s → Contains chosen t → u.name s ≡ u.name t → s ≢ t →
      AreApart kinds (u.name s) s t
  pub locks : (s : S) → Contains chosen s → (Contains exempt s → ⊥) → IsLockedOut u s → (t : S) × Contains kinds (Lock t s)
  pub exclusions : (s : S) (reason : StringId) → Contains chosen s → (Contains exempt s → ⊥) → Contains (u.package_named (u.name s)).excluded (s, reason) →
      Contains kinds (Excluded s reason)
  pub unknowns : (s : S) (reason : StringId) → Contains chosen s → u.needs s ≡ unknown reason → Contains kinds (Excluded s reason)

-- the chosen solvables are true, and no other candidate of their active requirements is
pub record IsClosedPart {N S : Type 0} (u : Universe N S) (kinds : List (ClauseKind N S)) (Takes : Origin N S → Bool → Type 0) (chosen : List S) : Type 0 where
  pub taken : (s : S) → Contains chosen s → Takes (Solvable s) true
  pub closed : (by : By S) (disjunct : Disjunct) (r : Requirement) (s : S) → Contains kinds (Requires (Some by) disjunct r) → IsPresent by chosen →
      AllMeet chosen (map (matching u) disjunct.items) → Contains (requirement_candidates u r) s → Takes (Solvable s) true → Contains chosen s
  pub closed_gate : (t : S) (r : Requirement) (s : S) → Contains chosen t → Contains kinds (Implies t (Gate r) true) →
      Contains (requirement_candidates u r) s → Takes (Solvable s) true → Contains chosen s
