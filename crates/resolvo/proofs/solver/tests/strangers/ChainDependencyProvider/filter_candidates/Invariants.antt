use Rattle.std.proofs.Common.{◌≡◌, take, not, filter, cond}
use Rattle.resolvo.specs.ChainProvider.{takes_own}
use Rattle.resolvo.proofs.solver.tests.strangers.ChainDependencyProvider.filter_candidates.Given as goal

abbrev pub invariant-loop-solvable : goal.invariant-loop-solvable
invariant-loop-solvable l = l.kept.items ≡ cond l.inverse (filter (λ s. not (takes_own l.version_set s)) (take l.solvable-index l.candidates))
    (filter (takes_own l.version_set) (take l.solvable-index l.candidates))
