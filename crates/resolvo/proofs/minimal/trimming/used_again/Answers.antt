use Rattle.std.proofs.Common.{◌∙◌, ap, length}
use Rattle.std.proofs.lemmas.List.{length-replicate}
use Rattle.resolvo.proofs.TrimmedLemmas.{all_used}
use Rattle.resolvo.proofs.minimal.trimming.used_again.Goals as goal

pub searches-init : goal.searches-init
searches-init g c =
    let all = c.in_ok-marks.ensures.items_if_clones_equal (λ y is. is) in record {
      size = ap length all ∙ length-replicate _ _;
      refuted = all_used c.args.rules.now c.in_ok-marks.marks.items all;
    }

pub searches-preserved : goal.searches-preserved
searches-preserved g c = record {
  size = c.in_ok-search_again.ensures.size;
  refuted = λ all. c.in_ok-search_again.ensures.refuted (c.searches.invariant.refuted all);
}

pub returns-then-not-branch-clause-refuted : goal.returns-then-not-branch-clause-refuted
returns-then-not-branch-clause-refuted g c = λ all. c.in_ok-search_again.ensures.refuted (c.searches.invariant.refuted all)

pub returns-clause-memory : goal.returns-clause-memory
returns-clause-memory g c = tt

pub returns-clause-size : goal.returns-clause-size
returns-clause-size g c = c.searches.invariant.size

pub returns-clause-refuted : goal.returns-clause-refuted
returns-clause-refuted g c = c.searches.invariant.refuted

pub returns-then-not-branch-clause-memory : goal.returns-then-not-branch-clause-memory
returns-then-not-branch-clause-memory g c = tt

pub returns-then-not-branch-clause-size : goal.returns-then-not-branch-clause-size
returns-then-not-branch-clause-size g c = c.in_ok-search_again.ensures.size

pub search_again-requires-clause-size : goal.search_again-requires-clause-size
search_again-requires-clause-size g c = c.searches.invariant.size
