use Rattle.resolvo.proofs.TurnLemmas.{consistent-bookmarked}
use Rattle.resolvo.proofs.clause_search.ClauseSearch.bookmark.Goals as goal

pub returns-clause-consistent : goal.returns-clause-consistent
returns-clause-consistent c = λ holds. consistent-bookmarked c.args.self.now _ _ c.len-self.ensures holds
