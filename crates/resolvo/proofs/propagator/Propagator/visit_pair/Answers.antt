use Rattle.resolvo.proofs.VisitLemmas.{below-contains, own-other, paired, propagates-none}
use Rattle.resolvo.proofs.propagator.Propagator.visit_pair.Goals as goal

pub is_true-requires : goal.is_true-requires
is_true-requires c =
    let v = c.requires.visiting in
    let pair = paired _ _ _ _ c.requires.watching c.other_watched.ensures in
    below-contains _ _ _ _ v.below (own-other _ _ _ _ _ _ v.propagator pair)

pub pass_by_other-requires-clause-pair : goal.pass_by_other-requires-clause-pair
pass_by_other-requires-clause-pair c =
    paired _ _ _ _ c.requires.watching c.other_watched.ensures

pub find_replacement-requires-clause-pair : goal.find_replacement-requires-clause-pair
find_replacement-requires-clause-pair c =
    paired _ _ _ _ c.requires.watching c.other_watched.ensures

pub returns-then-is_true-clause-propagates : goal.returns-then-is_true-clause-propagates
returns-then-is_true-clause-propagates c = propagates-none _ _ c.requires.justified
