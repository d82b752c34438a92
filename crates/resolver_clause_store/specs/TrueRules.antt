-- Statements and rules that are true of a provider and a problem.
use Rattle.std.specs.Prelude.{◌≡◌, ◌≢◌, ◌⊎◌, List, [], Option, Some, None, Contains}
use Rattle.resolver_clause_store.specs.Universe.{Universe, Demands, unknown}
use Rattle.resolver_clause_store.specs.Candidates.{others, requirement_candidates}
use Rattle.resolver_clause_store.specs.Conditions.{ConditionHolds}
use Rattle.resolver_clause_store.specs.Valid.{demands_of}
use Rattle.resolver_clause_store.specs.declared.ids.ConditionId.{ConditionId}
use Rattle.resolver_clause_store.specs.declared.data.ConditionalRequirement.{ConditionalRequirement}
use Rattle.resolver_clause_store.specs.Statements.{Statement, requires, constrains, lock, excluded, one_per_package, statement_of, AllMeet}
use Rattle.resolver_clause_store.specs.declared.data.By.{By}
use Rattle.resolver_clause_store.specs.declared.data.By.TheVariants.{Root, Solvable}
use Rattle.resolver_clause_store.specs.declared.rules.Rule.{Rule}

-- the demands of the root or of a solvable
abbrev pub demands_by : {N S : Type 0} → Universe N S → Demands → By S → Demands
demands_by u root Root = root
demands_by u root (Solvable s) = demands_of (u.needs s)

-- the condition holds in every set that meets the lists; a requirement without a condition has no lists
abbrev pub Implies : {N S : Type 0} → Universe N S → List (List S) → Option ConditionId → Type 0
Implies u when None = when ≡ []
Implies {N} {S} u when (Some c) = (set : List S) → AllMeet set when → ConditionHolds u (Contains set) c

-- the provider or the problem states this
abbrev pub IsTrueStatement : {N S : Type 0} → Universe N S → Demands → Statement N S → Type 0
IsTrueStatement u root (requires by requirement candidates when) =
    (r : ConditionalRequirement) × Contains (demands_by u root by).requirements r × (r.requirement ≡ requirement) ×
    (candidates ≡ requirement_candidates u requirement) × Implies u when r.condition
IsTrueStatement u root (constrains by version_set candidate) = Contains (demands_by u root by).constraints version_set ×
    Contains (others u version_set) candidate
IsTrueStatement u root (lock locked forbidden) = ((u.package_named (u.name forbidden)).locked ≡ Some locked) ×
    Contains (u.package_named (u.name forbidden)).listed forbidden × (forbidden ≢ locked)
IsTrueStatement u root (excluded solvable reason) = Contains (u.package_named (u.name solvable)).excluded (solvable, reason) ⊎
    (u.needs solvable ≡ unknown reason)
IsTrueStatement u root (one_per_package name instance) = u.name instance ≡ name

-- the provider or the problem states what the rule says
abbrev pub IsTrueRule : {N S : Type 0} → Universe N S → Demands → Rule N S → Type 0
IsTrueRule u root rule = IsTrueStatement u root (statement_of rule)
