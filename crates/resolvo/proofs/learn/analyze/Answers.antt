use Rattle.std.proofs.Common.{arith, rules, ◌<◌}
use Rattle.resolvo.proofs.NegationLemmas.{learnt-follows}
use Rattle.resolvo.proofs.DrawnLemmas.{drawn-learnt}
use Rattle.resolvo.proofs.LevelLemmas.{asserting}
use Rattle.resolvo.proofs.ListedLemmas.{negates-permuted}
use Rattle.resolvo.proofs.learn.analyze.Goals as goal

pub returns : goal.returns
returns c =
    let resolvent = c.in_ok-minimize.ensures.resolvent in
    let negates = negates-permuted _ _ _ _ c.sort_by_age.ensures.same (rw c.as_slice.ensures.value at c.in_ok-literals.ensures) in
    let some : 0 < c.minimize.new.resolvent.level = omega arith in
    let single = rw (← c.variable_at-variable.ensures.value) at (c.in_ok-minimize.ensures.single some) in
    record {
      within = resolvent.within;
      follows = learnt-follows _ _ _ _ _ resolvent.refutes negates;
      drawn = drawn-learnt _ _ _ _ _ resolvent.drawn negates;
      falsified = negates.falsified;
      asserting = asserting _ _ _ _ c.minimize.new.resolvent.level _ c.variable_at-variable.result single negates some c.negation_of-literal.ensures
          (rw c.as_slice-4.ensures.value at c.backtrack_level-backtrack_level.ensures.top)
          (rw c.as_slice-4.ensures.value at c.backtrack_level-backtrack_level.ensures.reached);
    }

pub backtrack_level-backtrack_level-requires : goal.backtrack_level-backtrack_level-requires
backtrack_level-backtrack_level-requires c =
    let negates = negates-permuted _ _ _ _ c.sort_by_age.ensures.same (rw c.as_slice.ensures.value at c.in_ok-literals.ensures) in
    let falsified = negates.falsified in search rules
