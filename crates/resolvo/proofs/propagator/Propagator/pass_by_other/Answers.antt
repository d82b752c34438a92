use Rattle.resolvo.proofs.VisitLemmas.{makes-true, own-other, sets, stands-placed, stands-same}
use Rattle.std.proofs.Common.{arith}
use Rattle.std.proofs.lemmas.Grind.{common_steps}
use Rattle.resolvo.proofs.propagator.Propagator.pass_by_other.Goals as goal

pub pass_by-requires-clause-visiting : goal.pass_by-requires-clause-visiting
pass_by-requires-clause-visiting c =
    let was = c.requires.visiting.propagator in
    let own = own-other _ _ _ _ _ _ was c.requires.pair in
    sets _ _ _ _ _ _ c.requires.visiting c.set_blocker.ensures.same c.set_blocker.ensures.pairs
    (c.set_blocker.ensures.fit _ own was.watched.fit)

pub pass_by-requires-clause-stands : goal.pass_by-requires-clause-stands
pass_by-requires-clause-stands c = stands-same _ _ _ _ _ c.set_blocker.ensures.same (stands-placed _ c.args.watcher.now.placed c.requires.stands)

pub pass_by-requires-clause-satisfied : goal.pass_by-requires-clause-satisfied
pass_by-requires-clause-satisfied c =
    makes-true c.args.table.now c.args.trail.now c.args.watcher.now.placed.watch.number c.args.watcher.now.other
    (own-other _ _ _ _ _ _ c.requires.visiting.propagator c.requires.pair) c.requires.satisfied

pub returns-clause-refused : goal.returns-clause-refused
returns-clause-refused c = tt

pub returns-clause-outcome : goal.returns-clause-outcome
returns-clause-outcome c = grind (arith, common_steps)

pub set_blocker-requires-clause-list : goal.set_blocker-requires-clause-list
set_blocker-requires-clause-list c = grind (arith, common_steps)
