use Rattle.std.proofs.Common.{rules}
use Rattle.resolvo.proofs.MarkLemmas.{marks-more}
use Rattle.resolvo.proofs.learn.resolve.mark_all.Goals as goal

pub literals-preserved : goal.literals-preserved
literals-preserved c = (
  rw (c.in_ok-mark.ensures.marks, c.variable.ensures, c.literal-item.is)
      (marks-more _ _ _ _ c.literal-item.result c.literals.invariant.0 c.literals-test.true (search rules)),
  λ lists. c.in_ok-mark.ensures.listed (c.literals.invariant.1 lists),
)
