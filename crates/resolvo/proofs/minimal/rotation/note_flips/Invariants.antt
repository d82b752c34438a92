use Rattle.std.proofs.Common.{◌≡◌, length}
use Rattle.resolvo.specs.Rotations.{AreNeeded}
use Rattle.resolvo.proofs.minimal.rotation.note_flips.Given as goal

abbrev pub invariant-positions : goal.invariant-positions
invariant-positions l = AreNeeded l.clauses l.kept l.needed.items × (length l.needed.items ≡ length l.fn.needed.items)
