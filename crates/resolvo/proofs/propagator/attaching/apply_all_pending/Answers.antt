use Rattle.std.proofs.Common.{arith}
use Rattle.std.proofs.lemmas.Grind.{common_steps}
use Rattle.resolvo.proofs.propagator.attaching.apply_all_pending.Goals as goal

pub returns-clause-conflict : goal.returns-clause-conflict
returns-clause-conflict c = grind (arith, common_steps)

pub returns-clause-propagator : goal.returns-clause-propagator
returns-clause-propagator c = grind (arith, common_steps)

pub returns-clause-step : goal.returns-clause-step
returns-clause-step c = grind (arith, common_steps)

pub returns-then-not-branch-clause-conflict : goal.returns-then-not-branch-clause-conflict
returns-then-not-branch-clause-conflict c = grind (arith, common_steps)

pub returns-then-not-branch-clause-none : goal.returns-then-not-branch-clause-none
returns-then-not-branch-clause-none c = grind (arith, common_steps)

pub returns-then-not-branch-clause-propagator : goal.returns-then-not-branch-clause-propagator
returns-then-not-branch-clause-propagator c = grind (arith, common_steps)
