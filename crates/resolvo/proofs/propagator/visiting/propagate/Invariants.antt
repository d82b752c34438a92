use Rattle.std.proofs.Common.{◌+◌, ◌-◌}
use Rattle.resolver_clause_store.specs.TrailView.{length_of, open_count}
use Rattle.resolvo.specs.Propagation.{Propagates}
use Rattle.resolvo.specs.Propagators.{IsAttached, IsPropagator, head_of}
use Rattle.resolvo.proofs.propagator.visiting.propagate.Given as goal

abbrev pub invariant-places : goal.invariant-places
invariant-places l = record {
  propagator : IsPropagator l.table l.trail l.propagator;
  attached : IsAttached l.table l.propagator;
  propagates : Propagates l.table l.initial.trail l.trail;
}

abbrev pub decreases-places : goal.decreases-places
decreases-places l = open_count l.trail + length_of l.trail - head_of l.propagator
