use Rattle.std.proofs.Common.{◌≡◌, length}
use Rattle.resolvo.specs.Propagators.{late_of, pending_of}
use Rattle.resolvo.proofs.AttachingLemmas.{Moves}
use Rattle.resolvo.proofs.propagator.Propagator.recall.Given as goal

abbrev pub invariant-late : goal.invariant-late
invariant-late l = record {
  moves : Moves (late_of l.initial.self) (late_of l.self) (pending_of l.initial.self) (pending_of l.self);
  watches : l.self.watches ≡ l.initial.self.watches;
  head : l.self.head ≡ l.initial.self.head;
}

abbrev pub decreases-late : goal.decreases-late
decreases-late l = length (late_of l.self)
