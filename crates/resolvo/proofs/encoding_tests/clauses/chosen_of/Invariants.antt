use Rattle.std.proofs.Common.{All, Contains}
use Rattle.resolver_clause_store.specs.Variables.{origins_in}
use Rattle.resolver_clause_store.specs.declared.Origin.TheVariants.{Solvable}
use Rattle.resolvo.proofs.encoding_tests.clauses.chosen_of.Given as goal

abbrev pub invariant-loop-solvable : goal.invariant-loop-solvable
invariant-loop-solvable g l = All (λ s. Contains (origins_in l.variables) (Solvable s)) l.chosen.keys
