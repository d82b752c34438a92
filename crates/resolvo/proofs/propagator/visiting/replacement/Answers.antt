use Rattle.resolvo.proofs.TwoLiteralLemmas.{two-unit}
use Rattle.resolvo.proofs.propagator.visiting.replacement.Goals as goal

pub returns-then-clause-eq2 : goal.returns-then-clause-eq2
returns-then-clause-eq2 c =
    two-unit c.args.trail.now c.args.clause.now c.args.falsified.now c.args.other.now c.if-clause-eq2.true c.requires.differ c.requires.own
    c.requires.other c.requires.falsified
