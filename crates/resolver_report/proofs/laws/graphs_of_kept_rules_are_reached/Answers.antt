use Rattle.resolver_report.proofs.ReachedPlaceLemmas.{graph_of_kept_rules}
use Rattle.resolver_report.proofs.laws.graphs_of_kept_rules_are_reached.Goals as goal

pub returns : goal.returns
returns g c = λ rules kept same_name same identity. graph_of_kept_rules same_name rules same identity kept
