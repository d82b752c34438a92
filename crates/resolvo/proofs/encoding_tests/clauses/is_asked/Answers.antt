use Rattle.std.proofs.Common.{[]}
use Rattle.resolvo.proofs.encoding_tests.clauses.is_asked.Goals as goal

pub returns-clause-reading : goal.returns-clause-reading
returns-clause-reading g c = record {
  root = c.requires.reading.root;
  so_far = c.in_ok-end_turn.ensures.ended.adds.stays.so_far _ [] (c.in_ok-begin_turn.ensures.stays.so_far _ [] c.requires.reading.so_far);
}
