use Rattle.std.proofs.Common.{arith, ◌∙◌}
use Rattle.resolvo.proofs.PropagatorLemmas.{all-settled}
use Rattle.resolvo.proofs.VisitLemmas.{propagates-none, propagates-trans}
use Rattle.resolvo.proofs.propagator.visiting.propagate.Goals as goal

pub returns : goal.returns
returns c =
    record {
      conflict = tt;
      settled = all-settled _ _ _ c.places.invariant.propagator c.places.invariant.attached (omega (arith, c.places-test.false, c.len.ensures));
      propagator = c.places.invariant.propagator;
      attached = c.places.invariant.attached;
      refused = tt;
      propagates = c.places.invariant.propagates;
    }

pub returns-in-Some : goal.returns-in-Some
returns-in-Some c =
    record {
      conflict = rw c.in-Some.is at c.in_ok-number.ensures.conflict;
      settled = tt;
      propagator = c.in_ok-number.ensures.propagator;
      attached = c.in_ok-number.ensures.attached;
      refused = tt;
      propagates = propagates-trans _ _ _ _ c.places.invariant.propagates c.visit.ensures.propagates;
    }

pub places-init : goal.places-init
places-init c = record {
  propagator = c.requires.propagator;
  attached = c.requires.attached;
  propagates = propagates-none _ _ c.requires.justified;
}
