use Rattle.std.proofs.Common.{◌∙◌}
use Rattle.resolver_encoding.proofs.table.ClauseTable.push_literals.Goals as goal

pub returns-clause-clause : goal.returns-clause-clause
returns-clause-clause g c = λ u are. c.in_ok-push_atoms.ensures.clause u (c.deref.ensures.value ∙ are)
