use Rattle.std.proofs.Common.{arith}
use Rattle.std.proofs.lemmas.Grind.{common_steps}
use Rattle.resolver_report.proofs.message.write_conflict_part.Goals as goal

pub returns-clause-memory : goal.returns-clause-memory
returns-clause-memory g c = grind (arith, common_steps)

pub returns-clause-ok : goal.returns-clause-ok
returns-clause-ok g c = grind (arith, common_steps)

pub returns-in_default-clause-memory : goal.returns-in_default-clause-memory
returns-in_default-clause-memory g c = grind (arith, common_steps)

pub returns-in_default-clause-ok : goal.returns-in_default-clause-ok
returns-in_default-clause-ok g c = grind (arith, common_steps)

pub returns-in_err-write_incompatible-clause-memory : goal.returns-in_err-write_incompatible-clause-memory
returns-in_err-write_incompatible-clause-memory g c = grind (arith, common_steps)

pub returns-in_err-write_incompatible-clause-ok : goal.returns-in_err-write_incompatible-clause-ok
returns-in_err-write_incompatible-clause-ok g c = grind (arith, common_steps)
