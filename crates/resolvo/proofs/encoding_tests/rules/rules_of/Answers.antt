use Rattle.resolvo.specs.TestProvider.{test_universe}
use Rattle.resolvo.proofs.encoding_tests.rules.rules_of.Goals as goal

pub rules_of_clauses-requires-clause-is_true : goal.rules_of_clauses-requires-clause-is_true
rules_of_clauses-requires-clause-is_true c = c.new-cache.ensures (test_universe c.new.result.items c.new-2.result.items)
