use Rattle.std.proofs.Common.{arith}
use Rattle.resolvo.specs.Rotations.{value_at}
use Rattle.resolvo.proofs.RotationLemmas.{needed_mark}
use Rattle.resolvo.proofs.minimal.rotation.note.Goals as goal

pub returns-clause-needed : goal.returns-clause-needed
returns-clause-needed c =
    needed_mark c.args.clauses.now c.args.kept.now c.args.needed.now.items c.in-Some.rule (value_at c.deref.result.now) (omega arith) c.in-Some.ensures
    c.requires.needed
