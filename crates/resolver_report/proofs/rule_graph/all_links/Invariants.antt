use Rattle.std.proofs.Common.{◌≡◌, reverse, take}
use Rattle.std.specs.HashMap.{get}
use Rattle.resolver_report.specs.Graphs.{links, last_instance}
use Rattle.resolver_report.proofs.rule_graph.all_links.Given as goal

abbrev pub invariant-loop-rule : goal.invariant-loop-rule
invariant-loop-rule g l = record {
  linked : l.found.items ≡ links g.N.PartialEq.eq (take l.rule-index l.rules);
  followed : ((n : _) → get g.N.PartialEq.eq l.last_instances n ≡ last_instance g.N.PartialEq.eq n (reverse (take l.rule-index l.rules)));
}
