use Rattle.std.proofs.Common.{arith}
use Rattle.std.proofs.lemmas.Grind.{common_steps}
use Rattle.resolver_report.proofs.ConflictLemmas.{conflict_step}
use Rattle.resolver_report.proofs.texts.write_conflicts.Goals as goal

pub loop-rest-preserved : goal.loop-rest-preserved
loop-rest-preserved g c = grind (arith, common_steps, conflict_step)
