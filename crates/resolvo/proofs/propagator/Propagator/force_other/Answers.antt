use Rattle.std.proofs.lemmas.Grind.{common_steps}
use Rattle.std.proofs.Common.{arith, sym}
use Rattle.resolver_clause_store.proofs.TrailLemmas.{value-none}
use Rattle.resolvo.proofs.VisitLemmas.{below-contains, forces, own-other, propagates-gains, propagates-none, propagates-same}
use Rattle.resolver_clause_store.proofs.ResultLemmas.{refused-any}
use Rattle.resolvo.proofs.WatchedLemmas.{owned-of}
use Rattle.resolvo.proofs.propagator.Propagator.force_other.Goals as goal

pub value-requires : goal.value-requires
value-requires c = below-contains _ _ _ _ c.requires.visiting.below (own-other _ _ _ _ _ _ c.requires.visiting.propagator c.requires.pair)

pub force-requires-clause-inside : goal.force-requires-clause-inside
force-requires-clause-inside c = below-contains _ _ _ _ c.requires.visiting.below (own-other _ _ _ _ _ _ c.requires.visiting.propagator c.requires.pair)

pub pass_by_other-requires-clause-visiting : goal.pass_by_other-requires-clause-visiting
pass_by_other-requires-clause-visiting c = forces _ _ _ _ _ _ _ _ c.requires.visiting c.in_ok-force-in-None.ensures.ok (value-none _ _ (sym c.in-None.ensures))

pub returns-in-Some-clause-propagates : goal.returns-in-Some-clause-propagates
returns-in-Some-clause-propagates c = propagates-none _ _ c.requires.justified

pub returns-in_ok-outcome-in-None-clause-propagates : goal.returns-in_ok-outcome-in-None-clause-propagates
returns-in_ok-outcome-in-None-clause-propagates c =
    let was = c.requires.visiting.propagator in
    propagates-gains _ _ _ _ _ _ c.requires.justified c.in_ok-force-in-None.ensures.ok (value-none _ _ (sym c.in-None.ensures))
    (omega (arith, c.requires.inside, was.watched.attached)) (own-other _ _ _ _ _ _ was c.requires.pair) c.requires.unit

pub returns-in_ok-outcome-in-None-clause-outcome : goal.returns-in_ok-outcome-in-None-clause-outcome
returns-in_ok-outcome-in-None-clause-outcome c = grind (arith, common_steps)

pub returns-in_err-force-in-None-clause-refused : goal.returns-in_err-force-in-None-clause-refused
returns-in_err-force-in-None-clause-refused c = refused-any _ _ (owned-of _ _ _ c.requires.visiting.propagator)

pub returns-in_err-force-in-None-clause-propagates : goal.returns-in_err-force-in-None-clause-propagates
returns-in_err-force-in-None-clause-propagates c = propagates-same _ _ _ c.requires.justified c.in_err-force-in-None.ensures.err

pub returns-in_err-outcome-in-None-clause-propagates : goal.returns-in_err-outcome-in-None-clause-propagates
returns-in_err-outcome-in-None-clause-propagates c =
    let was = c.requires.visiting.propagator in
    propagates-gains _ _ _ _ _ _ c.requires.justified c.in_ok-force-in-None.ensures.ok (value-none _ _ (sym c.in-None.ensures))
    (omega (arith, c.requires.inside, was.watched.attached)) (own-other _ _ _ _ _ _ was c.requires.pair) c.requires.unit
