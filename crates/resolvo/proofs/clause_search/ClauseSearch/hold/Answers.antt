use Rattle.resolvo.proofs.TurnLemmas.{consistent-held, loaded-turn}
use Rattle.resolvo.proofs.clause_search.ClauseSearch.hold.Goals as goal

pub returns-clause-consistent : goal.returns-clause-consistent
returns-clause-consistent c = consistent-held c.args.self.now _ _ _ c.requires.bookmarked c.level-self.ensures.top c.level-self.ensures.bound c.len-self.ensures
    c.requires.consistent

pub returns-clause-loaded : goal.returns-clause-loaded
returns-clause-loaded c = λ given numbers loaded. loaded-turn c.args.self.now _ _ _ _ _ _ _ given numbers loaded
