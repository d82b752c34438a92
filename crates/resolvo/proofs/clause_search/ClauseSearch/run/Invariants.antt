use Rattle.std.proofs.Common.{◌-◌}
use Rattle.resolvo.specs.ClauseSearches.{IsConsistent, IsSameProblem, learnt_count_of}
use Rattle.resolvo.proofs.clause_search.ClauseSearch.run.Given as goal

abbrev pub invariant-conflicts : goal.invariant-conflicts
invariant-conflicts g l = IsConsistent l.self × IsSameProblem l.initial.self l.self

abbrev pub decreases-conflicts : goal.decreases-conflicts
decreases-conflicts g l = l.learnt_limit - learnt_count_of l.self
