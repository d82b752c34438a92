-- Sets of all that rules reach, and rules about what is in a set.
use Rattle.std.specs.Prelude.{List, Contains}
use Rattle.resolver_clause_store.specs.declared.Rule.{Rule}
use Rattle.resolver_clause_store.specs.declared.Rule.TheVariants.{Requires, Constrains, Lock, Excluded, OnePerPackage}
use Rattle.resolver_report.specs.ReachedRules.{IsReachedBy}
use Rattle.resolver_clause_store.specs.Statements.{IsPresent}

-- the set has just what the rules reach
pub record IsReachedSet {N S : Type 0} (rules : List (Rule N S)) (set : List S) : Type 0 where
  pub sound : (s : S) → Contains set s → IsReachedBy rules s
  pub complete : (s : S) → IsReachedBy rules s → Contains set s

-- everything that the rule is about is in the set
abbrev pub IsAbout : {N S : Type 0} → List S → Rule N S → Type 0
IsAbout set (Requires by requirement candidates when) = IsPresent by set
IsAbout set (Constrains by version_set candidate) = IsPresent by set × Contains set candidate
IsAbout set (Lock locked forbidden) = Contains set forbidden
IsAbout set (Excluded solvable reason) = Contains set solvable
IsAbout set (OnePerPackage name instance) = Contains set instance
