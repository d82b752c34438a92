-- The solvables that imply helpers, according to some clauses.
use Rattle.std.specs.Prelude.{List, Contains, true}
use Rattle.resolver_clause_store.specs.declared.Helper.{Helper as HelperOf}
use Rattle.resolver_clause_store.specs.declared.ClauseKind.{ClauseKind}
use Rattle.resolver_clause_store.specs.declared.ClauseKind.TheVariants.{Implies}
use Rattle.resolver_encoding.specs.Groups.{Groups, IsInGroup}

-- exactly the solvables are noted that imply the helpers by these clauses
pub record AreSources {N S : Type 0} (kinds : List (ClauseKind N S)) (sources : Groups (HelperOf N) S) : Type 0 where
  pub only : (h : HelperOf N) (s : S) → IsInGroup sources h s → Contains kinds (Implies s h true)
  pub every : (h : HelperOf N) (s : S) → Contains kinds (Implies s h true) → IsInGroup sources h s
