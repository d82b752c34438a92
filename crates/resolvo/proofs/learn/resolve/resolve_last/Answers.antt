use Rattle.std.proofs.Common.{arith}
use Rattle.resolvo.proofs.LevelLemmas.{levelled-resolve}
use Rattle.resolvo.proofs.learn.resolve.resolve_last.Goals as goal

pub returns-clause-levelled : goal.returns-clause-levelled
returns-clause-levelled c =
    let reason = c.clause-reason.ensures in
    let resolved = c.in_ok-resolve.ensures in
    levelled-resolve c.args.table.now _ c.args.resolvent.now _ resolved.marks.0 c.args.variable c.args.number c.requires.resolvent.justified c.requires.reason
    c.requires.levelled c.requires.marked c.requires.other resolved.marks.1 resolved.marks.2 resolved.level
    (omega (arith, c.lowest_place-resolvent.ensures.low, resolved.lowest))
    (rw (reason, resolved.level) at c.lowest_place-resolvent.ensures.least) (rw (reason, resolved.level, resolved.lowest) at c.lowest_place-resolvent.ensures.reached)
