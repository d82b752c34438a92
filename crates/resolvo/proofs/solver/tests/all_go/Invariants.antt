use Rattle.resolvo.specs.Solvers.{IsSound, provider_in}
use Rattle.resolvo.specs.TestProvider.{test_universe}
use Rattle.resolvo.proofs.solver.tests.all_go.Given as goal

abbrev pub invariant-loop-step : goal.invariant-loop-step
invariant-loop-step l = IsSound
    (test_universe (provider_in l.solver).requirements.items (provider_in l.solver).constraints.items) l.solver
