use Rattle.std.proofs.Common.{◌∙◌}
use Rattle.resolver_clause_store.proofs.KeptLemmas.{keeps_all}
use Rattle.resolver_clause_store.proofs.TrailLemmas.{keeps-gains}
use Rattle.resolvo.proofs.LoadLemmas.{first-after}
use Rattle.resolvo.proofs.TurnLemmas.{consistent-assumed, level-gained, loaded-turn}
use Rattle.resolvo.proofs.clause_search.ClauseSearch.assume.Goals as goal

pub returns-clause-consistent : goal.returns-clause-consistent
returns-clause-consistent c =
    consistent-assumed c.args.self.now _ _ _ _ _ _ c.requires.consistent c.in_ok-assume.ensures.ok c.requires.free c.requires.bookmarked
    c.level-self.ensures.top c.level-self.ensures.bound c.len-self.ensures

pub returns-clause-loaded : goal.returns-clause-loaded
returns-clause-loaded c = λ given numbers loaded. loaded-turn c.args.self.now _ _ _ _ _ _ _ given numbers loaded

pub returns-clause-base : goal.returns-clause-base
returns-clause-base c = c.level-self.ensures.value ∙ level-gained _ _ _ _ _ c.in_ok-assume.ensures.ok

pub returns-clause-kept : goal.returns-clause-kept
returns-clause-kept c = first-after _ _ _ (keeps_all _ _ (keeps-gains _ _ _ _ _ c.in_ok-assume.ensures.ok c.requires.free))
