use Rattle.std.proofs.Common.{[]}
use Rattle.resolvo.proofs.encoding_tests.clauses.turns.begin.Goals as goal

pub read_given-requires-clause-reading : goal.read_given-requires-clause-reading
read_given-requires-clause-reading g c = record {
  root = record { requirements = c.args.requirements.now; constraints = [] };
  so_far = c.in_ok-begin_turn.ensures.stays.so_far _ [] (c.in_ok-register.ensures.registered.adds.stays.so_far _ [] c.in_ok-read_root.ensures.read);
}
