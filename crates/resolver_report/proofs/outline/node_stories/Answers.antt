use Rattle.std.proofs.Common.{arith}
use Rattle.std.proofs.lemmas.Grind.{common_steps}
use Rattle.resolver_report.proofs.ListLemmas.{map-range-next}
use Rattle.resolver_report.proofs.outline.node_stories.Goals as goal

pub loop-n-preserved : goal.loop-n-preserved
loop-n-preserved g c = grind (arith, common_steps, map-range-next)
