use Rattle.resolvo.specs.Minimal.{only_marked}
use Rattle.resolvo.proofs.MinimalLemmas.{whole_part}
use Rattle.resolvo.proofs.SameLemmas.{IsRefuted-same, Obeys-same, same_flipped}
use Rattle.resolvo.proofs.minimal.decide_plainly.Goals as goal

pub returns-in-Some-clause-verdict : goal.returns-in-Some-clause-verdict
returns-in-Some-clause-verdict g c = λ refuted.
    let set = c.in-Some.field-0.items in
    refuted set (Obeys-same (only_marked c.args.marks.now c.args.rules.now) c.in_ok-copies.copies.items c.in_ok-copies.ensures.same set
    (rw c.deref.ensures.value at (rw c.in-Some.is at c.in_ok-find.ensures.found)))

pub returns-clause-verdict : goal.returns-clause-verdict
returns-clause-verdict g c =
    let part = only_marked c.args.marks.now c.args.rules.now in
    let copies = c.in_ok-copies.copies.items in
    rw c.in_ok-part-in-None.ensures.items
    (whole_part c.args.rules.now c.args.marks.now c.requires.size
    (IsRefuted-same copies part (same_flipped part copies c.in_ok-copies.ensures.same)
    (rw c.deref.ensures.value at (rw c.in-None.is at c.in_ok-find.ensures.refuted))))
