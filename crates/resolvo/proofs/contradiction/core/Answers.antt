use Rattle.std.proofs.Common.{arith, ◌∙◌}
use Rattle.resolvo.proofs.CoreLemmas.{marked-begin, marked-replace, core-refuted}
use Rattle.resolvo.proofs.contradiction.core.Goals as goal

pub places-init : goal.places-init
places-init c = (
  omega arith,
  rw c.len-place.ensures
      (marked-begin _ _ _ _ _ (c.in_ok-marks.ensures.size ∙ c.len.ensures) c.in_ok-marks.ensures.none c.mark_numbers.ensures c.requires.within
      c.requires.refuted),
)

pub places-preserved-then-index : goal.places-preserved-then-index
places-preserved-then-index c = (omega arith, marked-replace _ _ _ _ _ _ (omega arith) (omega arith) c.requires.derived c.places.invariant.1 c.replace.ensures)

pub returns : goal.returns
returns c = λ given are. core-refuted given _ _ _ _ _ c.requires.derived c.places.invariant.1 (omega arith) c.in_ok-numbers.ensures.stand
    (rw c.as_slice.ensures.value at c.in_ok-numbers.ensures.each) are
