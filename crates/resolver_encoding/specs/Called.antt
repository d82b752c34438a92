-- Packages to ask and candidates to register.
use Rattle.std.specs.Prelude.{◌≡◌, ◌⊎◌, List, None, Contains}
use Rattle.resolver_clause_store.specs.Universe.{Universe, Demands}
use Rattle.resolver_clause_store.specs.Candidates.{requirement_candidates, version_sets}
use Rattle.resolver_clause_store.specs.Conditions.{IsActive}
use Rattle.resolver_clause_store.specs.declared.By.{By}
use Rattle.resolver_clause_store.specs.declared.ConditionalRequirement.{ConditionalRequirement}
use Rattle.resolver_clause_store.specs.declared.Requirement.{Requirement}
use Rattle.resolver_clause_store.specs.declared.VersionSetId.{VersionSetId}
use Rattle.resolver_clause_store.specs.Statements.{IsPresent}
use Rattle.resolver_clause_store.specs.TrueRules.{demands_by}

-- a call: to ask a package, or to register a candidate
pub data Call (N S : Type 0) : Type 0 where
  to_ask : N → Call N S
  to_see : S → Call N S

-- the call is to ask this package
abbrev pub IsAsking : {N S : Type 0} → N → Call N S → Type 0
IsAsking n (to_ask m) = n ≡ m
IsAsking n (to_see s) = ⊥

-- the call is to register this candidate
abbrev pub IsSeeing : {N S : Type 0} → S → Call N S → Type 0
IsSeeing s (to_ask n) = ⊥
IsSeeing s (to_see t) = s ≡ t

-- the call is to register one of these candidates
abbrev pub IsSeeingEach : {N S : Type 0} → List S → Call N S → Type 0
IsSeeingEach list (to_ask n) = ⊥
IsSeeingEach list (to_see s) = Contains list s

-- a version set of the list is of this package
abbrev pub IsNamedIn : {N S : Type 0} → Universe N S → List VersionSetId → N → Type 0
IsNamedIn u list n = (v : VersionSetId) × Contains list v × (u.version_set_name v ≡ n)

-- the call is to ask the package of one of the version sets
abbrev pub IsNamedBy : {N S : Type 0} → Universe N S → List VersionSetId → Call N S → Type 0
IsNamedBy u list (to_ask n) = IsNamedIn u list n
IsNamedBy u list (to_see s) = ⊥

-- the call is to ask a package that the requirement names, or to register one of its candidates
abbrev pub IsWantedBy : {N S : Type 0} → Universe N S → Requirement → Call N S → Type 0
IsWantedBy u r (to_ask n) = IsNamedIn u (version_sets u r) n
IsWantedBy u r (to_see s) = Contains (requirement_candidates u r) s

-- the requirement is active in the set and makes the call
abbrev pub IsCalledBy : {N S : Type 0} → Universe N S → List S → ConditionalRequirement → Call N S → Type 0
IsCalledBy u set r call = IsActive u (Contains set) r × IsWantedBy u r.requirement call

-- one of the requirements is active in the set and makes the call
abbrev pub IsCalledByEach : {N S : Type 0} → Universe N S → List S → List ConditionalRequirement → Call N S → Type 0
IsCalledByEach u set requirements call = (r : ConditionalRequirement) × Contains requirements r × IsCalledBy u set r call

-- a requirement that is active in the set makes the call, or a constraint does, which registers no candidates
abbrev pub IsDemanded : {N S : Type 0} → Universe N S → List S → Demands → Call N S → Type 0
IsDemanded u set demands call = IsCalledByEach u set demands.requirements call ⊎ IsNamedBy u demands.constraints call

-- the root or a solvable that was read demands that the package is asked
abbrev pub IsCalledFor : {N S : Type 0} → Universe N S → Demands → List S → List S → N → Type 0
IsCalledFor {N} {S} u root read set n = (by : By S) × IsPresent by read × IsDemanded u set (demands_by u root by) (to_ask n)

-- the requirement has no condition, and the call is to ask a package that it names
abbrev pub IsPlainlyNamed : {N S : Type 0} → Universe N S → ConditionalRequirement → Call N S → Type 0
IsPlainlyNamed u r call = (r.condition ≡ None) × IsNamedBy u (version_sets u r.requirement) call

-- the same for one of the requirements
abbrev pub IsPlainlyNamedByEach : {N S : Type 0} → Universe N S → List ConditionalRequirement → Call N S → Type 0
IsPlainlyNamedByEach u requirements call = (r : ConditionalRequirement) × Contains requirements r × IsPlainlyNamed u r call

-- the packages asked now are those asked before and exactly those that are called for
pub record AreAsked {N : Type 0} (Called : N → Type 0) (old new : List N) : Type 0 where
  pub stays : (n : N) → Contains old n → Contains new n
  pub only : (n : N) → Contains new n → Contains old n ⊎ Called n
  pub all : (n : N) → Called n → Contains new n
