use Rattle.std.proofs.Common.{[]}
use Rattle.resolver_clause_store.specs.Caches.{IsTrueCache}
use Rattle.resolver_encoding.specs.Notes.{cache_in, notes_in}
use Rattle.resolver_encoding.specs.SoFar.{IsReading}
use Rattle.resolvo.specs.TestProvider.{test_universe}
use Rattle.resolvo.proofs.encoding_tests.clauses.asked_count.Given as goal

abbrev pub invariant-loop-name : goal.invariant-loop-name
invariant-loop-name l = record {
  is_true : IsTrueCache (test_universe l.provider.requirements.items l.provider.constraints.items) (cache_in l.encoding);
  reading : IsReading (test_universe l.provider.requirements.items l.provider.constraints.items) [] (notes_in l.encoding);
}
