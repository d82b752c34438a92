use Rattle.std.proofs.Common.{◌≡◌, length}
use Rattle.resolvo.specs.Rotations.{AreNeeded}
use Rattle.resolvo.proofs.minimal.rotation.rotate.Given as goal

abbrev pub invariant-steps : goal.invariant-steps
invariant-steps l = AreNeeded l.clauses l.kept l.needed.items × (length l.needed.items ≡ length l.fn.needed.items)
