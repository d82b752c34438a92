use Rattle.std.proofs.Common.{◌≡◌, take}
use Rattle.resolver_report.specs.Graphs.{mentions}
use Rattle.resolver_report.proofs.rule_graph.all_mentions.Given as goal

abbrev pub invariant-loop-rule : goal.invariant-loop-rule
invariant-loop-rule g l = l.found.items ≡ mentions (take l.rule-index l.rules)
