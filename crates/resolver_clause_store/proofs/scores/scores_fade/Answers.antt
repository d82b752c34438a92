use Rattle.resolver_clause_store.proofs.ScoreLemmas.{scores-after_decay}
use Rattle.resolver_clause_store.proofs.scores.scores_fade.Goals as goal

pub returns : goal.returns
returns c = scores-after_decay
