use Rattle.std.proofs.Common.{arith, ap, ◌∙◌}
use Rattle.std.proofs.lemmas.List.{take_all}
use Rattle.resolver_report.specs.Graphs.{links}
use Rattle.std.specs.HashMap.{get}
use Rattle.std.specs.Map.{lookup}
use Rattle.resolver_report.proofs.LastInstanceLemmas.{links_next, marks_next}
use Rattle.resolver_report.proofs.rule_graph.all_links.Goals as goal

pub loop-rule-init : goal.loop-rule-init
loop-rule-init g c = record { linked = c.new-found.ensures.items; followed = λ n. ap (lookup (g.N.PartialEq.eq n)) c.new-last_instances.ensures.empty }

pub loop-rule-preserved : goal.loop-rule-preserved
loop-rule-preserved g c = record {
  linked = links_next g.N.PartialEq.eq c.args.rules.now c.loop-rule.rule-index c.rule-item.result (omega arith) c.rule-item.is
      (get g.N.PartialEq.eq c.loop-rule.last_instances) c.loop-rule.invariant.followed c.loop-rule.found.items c.add_links.new.found.items
      c.loop-rule.invariant.linked c.in_ok-add_links.ensures.ok;
  followed = marks_next g.N.PartialEq.eq c.args.rules.now c.loop-rule.rule-index c.rule-item.result (omega arith) c.rule-item.is
      (get g.N.PartialEq.eq c.loop-rule.last_instances) c.loop-rule.invariant.followed
      (get g.N.PartialEq.eq c.keep_instance.new.last_instances) (λ n. c.in_ok-keep_instance.ensures.ok n);
}

pub returns-clause-value : goal.returns-clause-value
returns-clause-value g c =
    c.loop-rule.invariant.linked ∙ ap (links g.N.PartialEq.eq) (take_all c.loop-rule.rule-index c.args.rules.now (omega arith))
