-- The state of an encoding that has read some solvables and asked some packages.
use Rattle.std.specs.Prelude.{◌≡◌, ◌≢◌, ◌⊎◌, List, [], Option, Some, Contains, map, true}
use Rattle.resolver_clause_store.specs.Universe.{Universe, Demands, unknown}
use Rattle.resolver_clause_store.specs.Candidates.{matching, others, requirement_candidates, version_sets}
use Rattle.resolver_clause_store.specs.Conditions.{IsActive}
use Rattle.resolver_clause_store.specs.declared.ConditionalRequirement.{ConditionalRequirement}
use Rattle.resolver_clause_store.specs.declared.Requirement.{Requirement}
use Rattle.resolver_clause_store.specs.declared.VersionSetId.{VersionSetId}
use Rattle.resolver_clause_store.specs.declared.StringId.{StringId}
use Rattle.resolver_clause_store.specs.declared.By.{By}
use Rattle.resolver_clause_store.specs.declared.By.TheVariants.{Solvable as BySolvable}
use Rattle.resolver_clause_store.specs.Statements.{IsPresent, AllMeet}
use Rattle.resolver_clause_store.specs.TrueRules.{demands_by}
use Rattle.resolver_clause_store.specs.declared.Helper.TheVariants.{Gate, Condition}
use Rattle.resolver_clause_store.specs.declared.ClauseKind.{ClauseKind}
use Rattle.resolver_clause_store.specs.declared.ClauseKind.TheVariants.{InstallRoot, Requires, Implies, Lock, Excluded}
use Rattle.resolver_encoding.specs.Atoms.{Disjunct}
use Rattle.resolver_encoding.specs.Read.{AreApart, HasGate, IsForbidden}

-- a disjunct of a requirement's condition that has not been met yet
pub record Deferred (S : Type 0) : Type 0 where
  pub by : By S
  pub disjunct : List VersionSetId
  pub requirement : Requirement

-- the clauses of a requirement under a disjunct
pub data HasClause {N S : Type 0} (kinds : List (ClauseKind N S)) (by : By S) (list : List VersionSetId) (r : Requirement) : Type 0 where
  has_direct : (disjunct : Disjunct) → disjunct.items ≡ list → Contains kinds (Requires (Some by) disjunct r) → HasClause kinds by list r
  has_gate : (s : S) → by ≡ BySolvable s → list ≡ [] → Contains kinds (Implies s (Gate r) true) → HasGate kinds r → HasClause kinds by list r

-- each disjunct of a requirement's condition has its clauses or is deferred
pub record IsReadRequirement {N S : Type 0} (u : Universe N S) (kinds : List (ClauseKind N S)) (IsLeft : Deferred S → Type 0) (by : By S)
    (r : ConditionalRequirement) : Type 0 where
  pub disjuncts : List (List VersionSetId)
  pub complete : (set : List S) → IsActive u (Contains set) r → (list : List VersionSetId) × Contains disjuncts list × AllMeet set (map (matching u) list)
  pub each : (list : List VersionSetId) → Contains disjuncts list →
      HasClause kinds by list r.requirement ⊎ IsLeft (record { by = by; disjunct = list; requirement = r.requirement })

-- the clauses cover all that the rules state about the root and the solvables that were read
pub record IsRead {N S : Type 0} (u : Universe N S) (root : Demands) (kinds : List (ClauseKind N S)) (IsLeft : Deferred S → Type 0) (read : List S)
    (asked : List N) (registered exempt : List S) : Type 0 where
  pub installs : Contains kinds InstallRoot
  -- for each solvable that was read
  pub requirements : (by : By S) (r : ConditionalRequirement) → IsPresent by read → Contains (demands_by u root by).requirements r →
      IsReadRequirement u kinds IsLeft by r
  pub constraints : (by : By S) (v : VersionSetId) (s : S) → IsPresent by read → Contains (demands_by u root by).constraints v → Contains (others u v) s →
      IsForbidden kinds by v s
  pub unknowns : (s : S) (reason : StringId) → Contains read s → u.needs s ≡ unknown reason → Contains kinds (Excluded s reason)
  -- for each requirement that has its clauses
  pub helpers : (parent : Option (By S)) (disjunct : Disjunct) (r : Requirement) → Contains kinds (Requires parent disjunct r) → (v : VersionSetId) →
      Contains disjunct.items v → (s : S) → Contains (matching u v) s → Contains kinds (Implies s (Condition v) true)
  pub packages : (by : By S) (list : List VersionSetId) (r : Requirement) → HasClause kinds by list r → (v : VersionSetId) → Contains (version_sets u r) v →
      Contains asked (u.version_set_name v)
  pub candidates : (by : By S) (list : List VersionSetId) (r : Requirement) → HasClause kinds by list r → (s : S) → Contains (requirement_candidates u r) s →
      Contains registered s
  -- for each package that was asked
  pub locks : (s t : S) → Contains asked (u.name s) → (Contains exempt s → ⊥) → (u.package_named (u.name s)).locked ≡ Some t →
      Contains (u.package_named (u.name s)).listed s → s ≢ t → Contains kinds (Lock t s)
  pub exclusions : (s : S) (reason : StringId) → Contains asked (u.name s) → (Contains exempt s → ⊥) →
      Contains (u.package_named (u.name s)).excluded (s, reason) → Contains kinds (Excluded s reason)
  -- for each two registered solvables
  pub instances : (s t : S) → Contains registered s → Contains registered t → u.name s ≡ u.name t → s ≢ t → AreApart kinds (u.name s) s t

-- each soft requirement is registered, and exempt unless its package was asked
pub record AreSeeds {N S : Type 0} (u : Universe N S) (seeds chosen : List S) (asked : List N) (registered exempt : List S) : Type 0 where
  pub seed_chosen : (s : S) → Contains seeds s → Contains chosen s
  pub seed_registered : (s : S) → Contains seeds s → Contains registered s
  pub seed_free : (s : S) → Contains seeds s → Contains exempt s ⊎ Contains asked (u.name s)

-- no deferred disjunct holds in the set
pub record NoneFires {N S : Type 0} (u : Universe N S) (IsLeft : Deferred S → Type 0) (set : List S) : Type 0 where
  pub none : (e : Deferred S) → IsLeft e → AllMeet set (map (matching u) e.disjunct) → ⊥
