use Rattle.std.proofs.Common.{arith}
use Rattle.std.proofs.lemmas.Grind.{common_steps}
use Rattle.resolver_report.proofs.outline.add_stories.Goals as goal

pub loop-rest-preserved : goal.loop-rest-preserved
loop-rest-preserved g c = grind (arith, common_steps)

pub returns-clause-memory : goal.returns-clause-memory
returns-clause-memory g c = grind (arith, common_steps)

pub returns-clause-ok : goal.returns-clause-ok
returns-clause-ok g c = grind (arith, common_steps)

pub returns-in_err-add_outline-clause-memory : goal.returns-in_err-add_outline-clause-memory
returns-in_err-add_outline-clause-memory g c = grind (arith, common_steps)

pub returns-in_err-add_outline-clause-ok : goal.returns-in_err-add_outline-clause-ok
returns-in_err-add_outline-clause-ok g c = grind (arith, common_steps)
