use Rattle.resolver_clause_store.specs.Caches.{IsTrueCache}
use Rattle.resolver_encoding.specs.Notes.{cache_in}
use Rattle.resolvo.proofs.encoding_tests.clauses.register_all.Given as goal

abbrev pub invariant-loop-solvable : goal.invariant-loop-solvable
invariant-loop-solvable g l = IsTrueCache (g.D.Interner.universe l.provider) (cache_in l.encoding)
