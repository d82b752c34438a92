use Rattle.resolver_report.proofs.TrueEdgeLemmas.{graph_of_true_rules}
use Rattle.resolver_report.proofs.laws.graphs_of_true_rules_are_true.Goals as goal

pub returns : goal.returns
returns g c = λ u root rules h same_name same names identity. graph_of_true_rules same identity u root same_name names rules h
