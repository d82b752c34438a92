use Rattle.std.proofs.Common.{arith}
use Rattle.std.proofs.lemmas.Grind.{common_steps}
use Rattle.resolver_clause_store.proofs.TrailLemmas.{value-none}
use Rattle.resolvo.proofs.AttachingLemmas.{forces-gains, gained-satisfied, last-inside, last-within, watched-below}
use Rattle.resolvo.proofs.PropagatorLemmas.{propagator-gains}
use Rattle.resolvo.proofs.propagator.attaching.apply_pending.Goals as goal

pub pass-requires-clause-below : goal.pass-requires-clause-below
pass-requires-clause-below c =
    watched-below c.args.table.now c.args.trail.now c.args.propagator.now _ c.args.number
    (rw c.in_ok-force-in-Unit.ensures.ok.size c.requires.below) c.requires.propagator

pub pass-requires-in-Satisfied-clause-inside : goal.pass-requires-in-Satisfied-clause-inside
pass-requires-in-Satisfied-clause-inside c =
    last-inside c.args.table.now c.args.trail.now c.args.propagator.now c.args.number c.requires.last c.requires.propagator

pub pass-requires-clause-inside : goal.pass-requires-clause-inside
pass-requires-clause-inside c = last-inside c.args.table.now c.args.trail.now c.args.propagator.now c.args.number c.requires.last c.requires.propagator

pub pass-requires-in-Satisfied-clause-below : goal.pass-requires-in-Satisfied-clause-below
pass-requires-in-Satisfied-clause-below c =
    watched-below c.args.table.now c.args.trail.now c.args.propagator.now _ c.args.number c.requires.below c.requires.propagator

pub reopen-requires-clause-inside : goal.reopen-requires-clause-inside
reopen-requires-clause-inside c = last-inside c.args.table.now c.args.trail.now c.args.propagator.now c.args.number c.requires.last c.requires.propagator

pub reopen-requires-clause-below : goal.reopen-requires-clause-below
reopen-requires-clause-below c = watched-below c.args.table.now c.args.trail.now c.args.propagator.now _ c.args.number c.requires.below c.requires.propagator

pub returns-in-Falsified-clause-answer : goal.returns-in-Falsified-clause-answer
returns-in-Falsified-clause-answer c = (
  last-within c.args.table.now c.args.trail.now c.args.propagator.now c.args.number c.requires.last c.requires.propagator,
  rw c.clause.ensures at c.in-Falsified.ensures,
)

pub returns-in_ok-pass-in-Unit-clause-propagator : goal.returns-in_ok-pass-in-Unit-clause-propagator
returns-in_ok-pass-in-Unit-clause-propagator c =
    let gains = c.in_ok-force-in-Unit.ensures.ok in
    let free = value-none _ _ c.in-Unit.ensures.0 in
    c.in_ok-pass-in-Unit.ensures.propagator c.args.table.now (gained-satisfied _ _ _ _ _ _ gains (rw c.clause.ensures at c.in-Unit.ensures.1))
    (propagator-gains _ _ _ _ _ _ _ gains free c.requires.propagator)

pub returns-in_ok-pass-in-Unit-clause-step : goal.returns-in_ok-pass-in-Unit-clause-step
returns-in_ok-pass-in-Unit-clause-step c =
    forces-gains _ _ _ _ _ _ c.requires.justified c.in_ok-force-in-Unit.ensures.ok (value-none _ _ c.in-Unit.ensures.0)
    (last-within c.args.table.now c.args.trail.now c.args.propagator.now c.args.number c.requires.last c.requires.propagator)
    (rw c.clause.ensures at c.in-Unit.ensures.1) (rw c.clause.ensures at c.in-Unit.ensures.2)

pub returns-in_ok-pass-in-Satisfied-clause-propagator : goal.returns-in_ok-pass-in-Satisfied-clause-propagator
returns-in_ok-pass-in-Satisfied-clause-propagator c =
    c.in_ok-pass-in-Satisfied.ensures.propagator c.args.table.now (rw c.clause.ensures at c.in-Satisfied.ensures) c.requires.propagator

pub returns-in_ok-pass-in-Satisfied-clause-step : goal.returns-in_ok-pass-in-Satisfied-clause-step
returns-in_ok-pass-in-Satisfied-clause-step c = grind (arith, common_steps)
