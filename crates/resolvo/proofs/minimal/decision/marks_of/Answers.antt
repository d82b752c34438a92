use Rattle.std.proofs.Common.{subst, arith, ◌<◌, List, length, ℕ}
use Rattle.std.proofs.Common.{slice_index_or}
use Rattle.resolvo.specs.MarkedClauses.{AreMarksOf}
use Rattle.std.proofs.lemmas.List.{take_all}
use Rattle.resolvo.proofs.MarkedLemmas.{no_numbers, next_number}
use Rattle.resolvo.proofs.minimal.decision.marks_of.Goals as goal

-- src/minimal/decision.rt:102:5
pub numbers-init : goal.numbers-init
numbers-init c = no_numbers c.args.places.now c.args.count c.in_ok-marks.marks.items (c.in_ok-marks.ensures.items_if_clones_equal (λ y is. is))

-- src/minimal/decision.rt:103:9
pub index_mut-requires : goal.index_mut-requires
index_mut-requires c = let so = c.numbers.invariant in
    let inside : slice_index_or c.args.numbers.now c.numbers.index 0 < length c.args.places.now = c.requires.inside c.numbers.index 0 c.numbers-test.true in
    omega (arith, so.size, c.requires.below (slice_index_or c.args.numbers.now c.numbers.index 0) 0 inside)

-- src/minimal/decision.rt:102:5
pub numbers-preserved : goal.numbers-preserved
numbers-preserved c = next_number c.args.places.now c.args.numbers.now c.args.count c.numbers.index c.numbers.marks.items c.numbers-test.true c.requires.inside
    c.requires.below c.numbers.invariant

-- src/minimal/decision.rt:91:1
pub returns : goal.returns
returns c = let P : List ℕ → Type 0 = λ xs. AreMarksOf c.args.places.now xs c.args.count c.numbers.marks.items in
    subst P (take_all c.numbers.index c.args.numbers.now c.numbers-test.false) c.numbers.invariant
