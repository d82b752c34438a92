use Rattle.resolvo.specs.Minimal.{CopiesFirst}
use Rattle.resolvo.proofs.minimal.copies_of.Given as goal

abbrev pub invariant-loop-place : goal.invariant-loop-place
invariant-loop-place g l = CopiesFirst l.place l.marks l.rules l.copies.items
