use Rattle.std.proofs.Common.{◌≡◌, take, not, filter, cond}
use Rattle.resolve.specs.WorkedProvider.{takes}
use Rattle.resolve.proofs.worked_provider.WorkedDependencyProvider.filter_candidates.Given as goal

abbrev pub invariant-loop-solvable : goal.invariant-loop-solvable
invariant-loop-solvable l = l.kept.items ≡ cond l.inverse (filter (λ s. not (takes l.version_set s)) (take l.solvable-index l.candidates))
    (filter (takes l.version_set) (take l.solvable-index l.candidates))
