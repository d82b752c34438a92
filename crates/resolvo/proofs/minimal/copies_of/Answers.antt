use Rattle.std.proofs.Common.{arith}
use Rattle.resolvo.proofs.MinimalLemmas.{copied_all}
use Rattle.resolvo.proofs.minimal.copies_of.Goals as goal

pub loop-place-preserved : goal.loop-place-preserved
loop-place-preserved g c = c.in_ok-add_copy.ensures.same c.loop-place.invariant

pub returns-clause-same : goal.returns-clause-same
returns-clause-same g c = copied_all c.args.marks.now c.args.rules.now c.loop-place.copies.items c.loop-place.place
    (omega (arith, c.requires)) c.loop-place.invariant
