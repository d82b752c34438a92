-- What rules state, whatever way they are stored, and which sets obey a statement.
use Rattle.std.specs.Prelude.{◌≡◌, List, Contains, All, ⊤}
use Rattle.resolver_clause_store.specs.Lists.{Meets}
use Rattle.resolver_clause_store.specs.declared.ids.StringId.{StringId}
use Rattle.resolver_clause_store.specs.declared.ids.VersionSetId.{VersionSetId}
use Rattle.resolver_clause_store.specs.declared.data.Requirement.{Requirement}
use Rattle.resolver_clause_store.specs.declared.data.By.{By}
use Rattle.resolver_clause_store.specs.declared.data.By.TheVariants.{Root, Solvable}
use Rattle.resolver_clause_store.specs.declared.rules.Rule.{Rule}
use Rattle.resolver_clause_store.specs.declared.rules.Rule.TheVariants.{Requires, Constrains, Lock, Excluded, OnePerPackage}
use Rattle.resolver_clause_store.specs.NumberedLists.{items_of}

pub data Statement (N S : Type 0) : Type 0 where
  requires : By S → Requirement → List S → List (List S) → Statement N S
  constrains : By S → VersionSetId → S → Statement N S
  lock : S → S → Statement N S
  excluded : S → StringId → Statement N S
  one_per_package : N → S → Statement N S

-- the statement of a rule
abbrev pub statement_of : {N S : Type 0} → Rule N S → Statement N S
statement_of (Requires by requirement candidates when) = requires by requirement candidates.items (items_of when.items)
statement_of (Constrains by version_set candidate) = constrains by version_set candidate
statement_of (Lock locked forbidden) = lock locked forbidden
statement_of (Excluded solvable reason) = excluded solvable reason
statement_of (OnePerPackage name instance) = one_per_package name instance

-- both rules state the same
abbrev pub StatesTheSame : {N S : Type 0} → Rule N S → Rule N S → Type 0
StatesTheSame rule other = statement_of rule ≡ statement_of other

-- the root is always present, a solvable if it is in the set
abbrev pub IsPresent : {S : Type 0} → By S → List S → Type 0
IsPresent Root set = ⊤
IsPresent (Solvable s) set = Contains set s

-- each list has a member in the set
abbrev pub AllMeet : {S : Type 0} → List S → List (List S) → Type 0
AllMeet set lists = All (λ list. Meets list set) lists

-- the set obeys a single statement; a listed instance forbids nothing by itself
abbrev pub ObeysAlone : {N S : Type 0} → List S → Statement N S → Type 0
ObeysAlone set (requires by requirement candidates when) = IsPresent by set → AllMeet set when → Meets candidates set
ObeysAlone set (constrains by version_set candidate) = IsPresent by set → Contains set candidate → ⊥
ObeysAlone set (lock locked forbidden) = Contains set forbidden → ⊥
ObeysAlone set (excluded solvable reason) = Contains set solvable → ⊥
ObeysAlone set (one_per_package name instance) = ⊤

-- the set obeys each of these statements, and has at most one of the instances that they list for one name
pub record ObeysAll {N S : Type 0} (set : List S) (Stated : Statement N S → Type 0) : Type 0 where
  pub each : (r : Statement N S) → Stated r → ObeysAlone set r
  pub one_each : (n : N) (s t : S) → Stated (one_per_package n s) → Stated (one_per_package n t) → Contains set s → Contains set t → s ≡ t
