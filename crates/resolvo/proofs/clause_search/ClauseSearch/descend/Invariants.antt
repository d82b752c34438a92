use Rattle.std.proofs.Common.{◌≡◌}
use Rattle.resolver_clause_store.specs.TrailView.{open_count}
use Rattle.resolvo.specs.ClauseSearches.{IsConsistent, IsSameProblem, learnt_count_of}
use Rattle.resolvo.proofs.clause_search.ClauseSearch.descend.Given as goal

abbrev pub invariant-steps : goal.invariant-steps
invariant-steps g l = record {
  consistent : IsConsistent l.self;
  same : IsSameProblem l.initial.self l.self;
  learnt : learnt_count_of l.self ≡ learnt_count_of l.initial.self;
}

abbrev pub decreases-steps : goal.decreases-steps
decreases-steps g l = open_count l.self.trail
