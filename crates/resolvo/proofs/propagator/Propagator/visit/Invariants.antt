use Rattle.std.proofs.Common.{◌≡◌, ◌-◌, ◌≤◌, length}
use Rattle.resolvo.specs.Propagation.{Propagates}
use Rattle.resolvo.specs.Propagators.{head_of}
use Rattle.resolvo.specs.Visits.{IsVisiting, watchers_of}
use Rattle.resolvo.proofs.propagator.Propagator.visit.Given as goal

abbrev pub invariant-watchers : goal.invariant-watchers
invariant-watchers l = record {
  visiting : IsVisiting l.table l.trail l.self l.falsified l.place;
  within : l.place ≤ length (watchers_of l.self l.falsified.literal);
  head : head_of l.self ≡ head_of l.initial.self;
  propagates : Propagates l.table l.initial.trail l.trail;
}

abbrev pub decreases-watchers : goal.decreases-watchers
decreases-watchers l = length (watchers_of l.self l.falsified.literal) - l.place
