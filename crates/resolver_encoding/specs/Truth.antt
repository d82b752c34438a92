-- Which clauses are true of a provider and a problem.
use Rattle.std.specs.Prelude.{ℕ, is_none, ◌&&◌, ◌≡◌, ◌≢◌, ◌⊎◌, Bool, true, false, List, None, Some, Contains, map, ⊤}
use Rattle.resolver_clause_store.specs.Laws.{HasLawfulIds, IsIdentity}
use Rattle.resolver_clause_store.specs.Universe.{Universe, Demands, unknown}
use Rattle.resolver_clause_store.specs.Candidates.{matching, others}
use Rattle.std.specs.List.{list_any}
use Rattle.resolver_clause_store.specs.Valid.{demands_of}
use Rattle.resolver_clause_store.specs.declared.Requirement.{Requirement}
use Rattle.resolver_clause_store.specs.declared.ConditionalRequirement.{ConditionalRequirement}
use Rattle.resolver_clause_store.specs.declared.Rule.{Rule}
use Rattle.resolver_clause_store.specs.Statements.{Statement, statement_of}
use Rattle.resolver_clause_store.specs.TrueRules.{demands_by, Implies}
use Rattle.resolver_clause_store.specs.declared.Helper.{Helper as HelperOf}
use Rattle.resolver_clause_store.specs.declared.Helper.TheVariants.{Bit, Gate, Constraint, Condition}
use Rattle.resolver_clause_store.specs.declared.ClauseKind.{ClauseKind}
use Rattle.resolver_clause_store.specs.declared.ClauseKind.TheVariants.{InstallRoot, Requires, Implies as ImpliesKind, Constrains, Lock, Excluded}
use Rattle.resolver_clause_store.specs.SameRequirements.{same_requirement}
use Rattle.resolver_encoding.specs.Atoms.{has, IsStated}

-- conditions are well-founded, and solvables that compare equal are the same
pub record HasLawfulSolvables {N S : Type 0} (u : Universe N S) : Type 0 where
  pub ids : HasLawfulIds u
  pub same_solvable : IsIdentity u.same_solvable

-- whether the conditional requirement is this requirement without a condition
abbrev pub is_plain : Requirement → ConditionalRequirement → Bool
is_plain r q = is_none q.condition && same_requirement q.requirement r

-- whether the solvable implies the helper; `codes` has the bits of each solvable under a name
abbrev pub follows : {N S : Type 0} → Universe N S → (N → ℕ → S → Bool) → HelperOf N → S → Bool
follows u codes (Bit n i) s = codes n i s
follows u codes (Gate r) s = list_any (is_plain r) (demands_of (u.needs s)).requirements
follows u codes (Constraint v) s = has u (others u v) s
follows u codes (Condition v) s = has u (matching u v) s

-- codes without bits
abbrev pub no_codes : {N S : Type 0} → N → ℕ → S → Bool
no_codes n i s = false

-- a solvable has bits under its own name only
pub record AreCodes {N S : Type 0} (u : Universe N S) (codes : N → ℕ → S → Bool) : Type 0 where
  pub named : (n : N) (i : ℕ) (s : S) → codes n i s ≡ true → u.name s ≡ n

-- a bit belongs to the codes under the solvable's name, and each other helper is implied
abbrev pub IsOwn : {N S : Type 0} → Universe N S → HelperOf N → S → Bool → Type 0
IsOwn u (Bit n i) s value = u.name s ≡ n
IsOwn u helper s value = value ≡ true

-- the clause states what the provider or the problem states, or defines a helper
abbrev pub IsTrueClause : {N S : Type 0} → Universe N S → (N → ℕ → S → Bool) → Demands → ClauseKind N S → Type 0
IsTrueClause u codes root InstallRoot = ⊤
IsTrueClause u codes root (Requires (Some by) disjunct requirement) =
    (r : ConditionalRequirement) × Contains (demands_by u root by).requirements r × (r.requirement ≡ requirement) ×
    Implies u (map (matching u) disjunct.items) r.condition
IsTrueClause u codes root (Requires None disjunct requirement) = ⊤
IsTrueClause u codes root (ImpliesKind candidate helper value) = IsOwn u helper candidate value × (follows u codes helper candidate ≡ value)
IsTrueClause u codes root (Constrains by version_set (Some candidate)) = Contains (demands_by u root by).constraints version_set ×
    Contains (others u version_set) candidate
IsTrueClause u codes root (Constrains by version_set None) = Contains (demands_by u root by).constraints version_set
IsTrueClause u codes root (Lock locked forbidden) = ((u.package_named (u.name forbidden)).locked ≡ Some locked) ×
    Contains (u.package_named (u.name forbidden)).listed forbidden × (forbidden ≢ locked)
IsTrueClause u codes root (Excluded solvable reason) = Contains (u.package_named (u.name solvable)).excluded (solvable, reason) ⊎
    (u.needs solvable ≡ unknown reason)

-- no lock, and no exclusion by a package, forbids an exempt solvable
pub record Spares {N S : Type 0} (u : Universe N S) (exempt : List S) (kinds : List (ClauseKind N S)) : Type 0 where
  pub locks : (s t : S) → Contains kinds (Lock s t) → Contains exempt t → ⊥
  pub exclusions : (s : S) (reason : _) → Contains kinds (Excluded s reason) → Contains exempt s → u.needs s ≡ unknown reason

-- the rules make each statement that the clauses make
abbrev pub AreListed : {N S : Type 0} → Universe N S → (HelperOf N → S → Bool) → List (ClauseKind N S) → List (Rule N S) → Type 0
AreListed {N} {S} u implies kinds rules = (st : Statement N S) → IsStated u implies kinds st → (rule : Rule N S) × Contains rules rule ×
    (statement_of rule ≡ st)

-- each rule makes a statement that the clauses make
abbrev pub AreStated : {N S : Type 0} → Universe N S → (HelperOf N → S → Bool) → List (ClauseKind N S) → List (Rule N S) → Type 0
AreStated {N} {S} u implies kinds rules = (rule : Rule N S) → Contains rules rule → IsStated u implies kinds (statement_of rule)

-- locks are of packages that were asked, and forbid no exempt solvable; the same goes for exclusions, except those of
-- unknown dependencies
pub record AreDue {N S : Type 0} (u : Universe N S) (asked : List N) (exempt : List S) (kinds : List (ClauseKind N S)) : Type 0 where
  pub locks : (s t : S) → Contains kinds (Lock s t) → Contains asked (u.name t) × (Contains exempt t → ⊥)
  pub exclusions : (s : S) (reason : _) → Contains kinds (Excluded s reason) → (Contains asked (u.name s) × (Contains exempt s → ⊥)) ⊎
      (u.needs s ≡ unknown reason)
