use Rattle.std.proofs.Common.{rules, arith}
use Rattle.std.proofs.lemmas.Bool.{both_ways}
use Rattle.std.proofs.lemmas.Grind.{elements}
use Rattle.resolvo.proofs.ResolutionLemmas.{refutes-begin}
use Rattle.resolvo.proofs.DrawnLemmas.{drawn-begin}
use Rattle.resolvo.proofs.LevelLemmas.{levelled-begin}
use Rattle.resolvo.proofs.learn.resolve.begin.Goals as goal

pub returns-clause-resolvent : goal.returns-clause-resolvent
returns-clause-resolvent c = record {
  below = c.requires.below;
  justified = c.requires.justified;
  size = search rules;
  listed = c.in_ok-mark_all.ensures.listed
      (record { within = rw c.new-marked.ensures.items (λ k d below. absurd (omega arith)); all = λ v m. absurd (both_ways _ (c.requires.blank v) m) });
  within = rw c.in_ok-causes.ensures.items (λ k d below. grind (arith, elements));
  refutes = rw c.in_ok-causes.ensures.items (refutes-begin _ _ _ _ _ c.requires.conflict.1 (rw c.clause-literals.ensures at c.in_ok-mark_all.ensures.marks));
  drawn = rw c.in_ok-causes.ensures.items
      (drawn-begin _ _ _ _ _ c.requires.conflict.1 c.requires.blank (rw c.clause-literals.ensures at c.in_ok-mark_all.ensures.marks));
}

pub returns-clause-levelled : goal.returns-clause-levelled
returns-clause-levelled c =
    let literals = c.clause-literals.ensures in
    levelled-begin _ _ _ _ c.len.result (search rules) c.requires.blank (rw literals at c.in_ok-mark_all.ensures.marks) c.requires.conflict.1
    (rw literals at c.highest_level-level.ensures.top) (rw literals at c.highest_level-level.ensures.reached)
    (rw literals at c.lowest_place-lowest.ensures.least) (rw literals at c.lowest_place-lowest.ensures.reached)
