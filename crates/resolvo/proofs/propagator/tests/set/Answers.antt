use Rattle.std.proofs.Common.{rules}
use Rattle.resolvo.proofs.PropagatorLemmas.{propagator-gains}
use Rattle.resolvo.proofs.JustifiedLemmas.{decided-forced, justified-decides}
use Rattle.resolvo.proofs.propagator.tests.set.Goals as goal

pub returns-in_ok-decide-in-None-clause-justified : goal.returns-in_ok-decide-in-None-clause-justified
returns-in_ok-decide-in-None-clause-justified c =
    λ table before. justified-decides table _ _ _ _ _ (λ n. decided-forced _ n) before c.in_ok-decide-in-None.ensures.ok (search rules)

pub returns-in_ok-decide-in-None-clause-propagator : goal.returns-in_ok-decide-in-None-clause-propagator
returns-in_ok-decide-in-None-clause-propagator c =
    λ table propagator before. propagator-gains table _ _ propagator _ _ _ c.in_ok-decide-in-None.ensures.ok (search rules) before
