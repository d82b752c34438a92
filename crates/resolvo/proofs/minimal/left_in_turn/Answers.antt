use Rattle.resolvo.proofs.minimal.left_in_turn.Goals as goal

pub returns-clause-memory : goal.returns-clause-memory
returns-clause-memory g c = tt

pub returns-clause-left : goal.returns-clause-left
returns-clause-left g c = c.in_ok-kept.ensures.left

pub returns-clause-size : goal.returns-clause-size
returns-clause-size g c = c.in_ok-kept.ensures.size
