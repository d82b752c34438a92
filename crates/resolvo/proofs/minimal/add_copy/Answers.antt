use Rattle.resolvo.proofs.MinimalLemmas.{copied, copied_not}
use Rattle.resolvo.proofs.minimal.add_copy.Goals as goal

pub returns-then-not-marks-place-clause-same : goal.returns-then-not-marks-place-clause-same
returns-then-not-marks-place-clause-same g c =
    copied_not c.args.marks.now c.args.rules.now c.args.copies.now.items c.args.place c.requires.size c.requires.inside c.if-not-marks-place.true

pub returns-clause-same : goal.returns-clause-same
returns-clause-same g c = λ same.
    rw c.in_ok-push.ensures.items (copied c.args.marks.now c.args.rules.now c.args.copies.now.items c.args.place c.index-rules-place.result c.in_ok-copy.copy
    c.requires.size c.requires.inside c.index-rules-place.is c.if-not-marks-place.false c.in_ok-copy.ensures.same same)
