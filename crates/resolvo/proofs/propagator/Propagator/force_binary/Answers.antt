use Rattle.std.proofs.Common.{arith}
use Rattle.resolver_clause_store.proofs.TrailLemmas.{value-none}
use Rattle.resolvo.proofs.AttachingLemmas.{gained-satisfied}
use Rattle.resolvo.proofs.VisitLemmas.{below-contains, forces, propagates-gains, propagates-same, stands-placed}
use Rattle.resolvo.proofs.TwoLiteralLemmas.{binary-unit}
use Rattle.resolver_clause_store.proofs.ResultLemmas.{refused-any}
use Rattle.resolvo.proofs.WatchedLemmas.{owned-of}
use Rattle.resolvo.proofs.propagator.Propagator.force_binary.Goals as goal

pub force-requires-clause-inside : goal.force-requires-clause-inside
force-requires-clause-inside c = below-contains _ _ _ _ c.requires.visiting.below c.requires.own

pub pass_by-requires-clause-visiting : goal.pass_by-requires-clause-visiting
pass_by-requires-clause-visiting c = forces _ _ _ _ _ _ _ _ c.requires.visiting c.in_ok-force.ensures.ok (value-none _ _ c.requires.free)

pub pass_by-requires-clause-satisfied : goal.pass_by-requires-clause-satisfied
pass_by-requires-clause-satisfied c = gained-satisfied _ _ _ _ _ _ c.in_ok-force.ensures.ok c.requires.own

pub returns-clause-propagates : goal.returns-clause-propagates
returns-clause-propagates c =
    let was = c.requires.visiting.propagator in
    propagates-gains _ _ _ _ _ _ c.requires.justified c.in_ok-force.ensures.ok (value-none _ _ c.requires.free)
    (omega (arith, c.requires.inside, was.watched.attached)) c.requires.own
    (binary-unit _ _ _ _ _ c.requires.visiting _ _ c.requires.watching c.requires.own c.requires.two c.requires.free)

pub pass_by-requires-clause-stands : goal.pass_by-requires-clause-stands
pass_by-requires-clause-stands c = stands-placed _ c.args.binary.now.placed c.requires.stands

pub returns-in_err-force-clause-refused : goal.returns-in_err-force-clause-refused
returns-in_err-force-clause-refused c = refused-any _ _ (owned-of _ _ _ c.requires.visiting.propagator)

pub returns-in_err-force-clause-propagates : goal.returns-in_err-force-clause-propagates
returns-in_err-force-clause-propagates c = propagates-same _ _ _ c.requires.justified c.in_err-force.ensures.err

pub returns-in_err-outcome-clause-propagates : goal.returns-in_err-outcome-clause-propagates
returns-in_err-outcome-clause-propagates c =
    let was = c.requires.visiting.propagator in
    propagates-gains _ _ _ _ _ _ c.requires.justified c.in_ok-force.ensures.ok (value-none _ _ c.requires.free)
    (omega (arith, c.requires.inside, was.watched.attached)) c.requires.own
    (binary-unit _ _ _ _ _ c.requires.visiting _ _ c.requires.watching c.requires.own c.requires.two c.requires.free)
