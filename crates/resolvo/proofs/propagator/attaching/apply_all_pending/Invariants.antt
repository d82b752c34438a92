use Rattle.std.proofs.Common.{◌≡◌, length}
use Rattle.resolvo.specs.Attaching.{Forces}
use Rattle.resolvo.specs.Propagators.{IsPropagator, pending_of}
use Rattle.resolvo.proofs.propagator.attaching.apply_all_pending.Given as goal

abbrev pub invariant-pending : goal.invariant-pending
invariant-pending l = record {
  propagator : IsPropagator l.table l.trail l.propagator;
  watches : l.propagator.watches ≡ l.initial.propagator.watches;
  step : Forces l.table l.initial.trail l.trail;
}

abbrev pub decreases-pending : goal.decreases-pending
decreases-pending l = length (pending_of l.propagator)
