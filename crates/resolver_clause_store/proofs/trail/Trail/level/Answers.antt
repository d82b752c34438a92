use Rattle.resolver_clause_store.proofs.LevelLemmas.{level-bound, level-top}
use Rattle.resolver_clause_store.proofs.trail.Trail.level.Goals as goal

pub returns-clause-top : goal.returns-clause-top
returns-clause-top c = rw c.args.self.now.leveled (level-top c.args.self.now)

pub returns-clause-bound : goal.returns-clause-bound
returns-clause-bound c = rw c.args.self.now.leveled (level-bound c.args.self.now)
