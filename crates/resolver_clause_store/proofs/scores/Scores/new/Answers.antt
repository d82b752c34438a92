use Rattle.resolver_clause_store.proofs.ScoreLemmas.{score-new}
use Rattle.resolver_clause_store.proofs.scores.Scores.new.Goals as goal

pub returns : goal.returns
returns c = score-new (record { activity = c.args.activity; scores = c.new.result }) c.new.ensures.items
