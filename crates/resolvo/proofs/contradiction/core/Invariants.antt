use Rattle.std.proofs.Common.{◌≤◌, length}
use Rattle.resolvo.specs.Derivations.{MarkedRefute}
use Rattle.resolvo.proofs.contradiction.core.Given as goal

abbrev pub invariant-places : goal.invariant-places
invariant-places l = (l.place ≤ length l.table) × MarkedRefute l.table l.sources l.marks.items l.place

abbrev pub decreases-places : goal.decreases-places
decreases-places l = l.place
