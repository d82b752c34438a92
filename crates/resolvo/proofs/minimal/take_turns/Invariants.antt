use Rattle.std.proofs.Common.{◌≡◌, length}
use Rattle.resolvo.specs.Rotations.{AreUnderway}
use Rattle.resolvo.proofs.minimal.take_turns.Given as goal

-- the number of rules that had their turns
abbrev pub invariant-loop-turn : goal.invariant-loop-turn
invariant-loop-turn g l = AreUnderway l.rules l.form l.turns × (length l.turns.kept.items ≡ l._turn)
