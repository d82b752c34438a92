use Rattle.std.proofs.Common.{arith}
use Rattle.std.proofs.lemmas.Grind.{common_steps}
use Rattle.resolver_report.proofs.graph.Graph.edges.Goals as goal

pub returns-clause-sources : goal.returns-clause-sources
returns-clause-sources g c = grind (arith, common_steps)

pub returns-clause-targets : goal.returns-clause-targets
returns-clause-targets g c = grind (arith, common_steps)

pub returns-clause-value : goal.returns-clause-value
returns-clause-value g c = grind (arith, common_steps)
