use Rattle.resolver_clause_store.proofs.ScoreLemmas.{read-same}
use Rattle.resolver_clause_store.proofs.scores.Scores.read.Goals as goal

pub returns-then-number-len-clause-same : goal.returns-then-number-len-clause-same
returns-then-number-len-clause-same c =
    read-same c.args.self.now c.keep.new.self c.args.number c.args.learnt c.of-value.result c.of-value.ensures c.keep.ensures.activity c.keep.ensures.here
    c.keep.ensures.others
