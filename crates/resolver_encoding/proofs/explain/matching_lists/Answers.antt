use Rattle.std.proofs.Common.{arith}
use Rattle.std.proofs.lemmas.Grind.{common_steps}
use Rattle.resolver_encoding.proofs.explain.matching_lists.Goals as goal

pub loop-version_set-init : goal.loop-version_set-init
loop-version_set-init g c = grind (arith, common_steps)

pub loop-version_set-preserved : goal.loop-version_set-preserved
loop-version_set-preserved g c = grind (arith, common_steps)
