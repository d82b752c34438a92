use Rattle.std.proofs.Common.{[]}
use Rattle.resolver_clause_store.specs.Caches.{IsTrueCache}
use Rattle.resolver_encoding.specs.Notes.{cache_in, notes_in}
use Rattle.resolver_encoding.specs.SoFar.{IsReading}
use Rattle.resolvo.proofs.encoding_tests.clauses.read.Given as goal

abbrev pub invariant-loop : goal.invariant-loop
invariant-loop g l = record {
  is_true : IsTrueCache (g.D.Interner.universe l.provider) (cache_in l.encoding);
  reading : IsReading (g.D.Interner.universe l.provider) [] (notes_in l.encoding);
}
