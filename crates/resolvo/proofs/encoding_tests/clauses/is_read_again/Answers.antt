use Rattle.resolvo.proofs.encoding_tests.clauses.is_read_again.Goals as goal

pub holds_within-requires-clause-is_true : goal.holds_within-requires-clause-is_true
holds_within-requires-clause-is_true c = c.new-cache.ensures _
