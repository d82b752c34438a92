use Rattle.std.proofs.Common.{arith}
use Rattle.std.proofs.lemmas.Grind.{common_steps}
use Rattle.resolver_clause_store.proofs.SlotLemmas.{slot-within}
use Rattle.resolver_clause_store.proofs.trail.Trail.variable_at.Goals as goal

pub returns-clause-inside : goal.returns-clause-inside
returns-clause-inside c = slot-within _ _ c.args.place (grind (arith, common_steps, c.args.self.now.placed c.args.place))
