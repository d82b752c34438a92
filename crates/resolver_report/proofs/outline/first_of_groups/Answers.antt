use Rattle.std.proofs.Common.{◌∙◌, arith, get_or}
use Rattle.std.proofs.lemmas.List.{get_or_default}
use Rattle.resolver_report.specs.declared.graph.NodeId.{NodeId}
use Rattle.resolver_report.proofs.OutlineLemmas.{first_of_groups_next}
use Rattle.resolver_report.proofs.outline.first_of_groups.Goals as goal

pub loop-n-preserved : goal.loop-n-preserved
loop-n-preserved c =
    let n : NodeId = get_or c.args.nodes.now c.loop-n.n-index (record { 0 = 0 }) in
    record {
      first = c.in_ok-add_node.ensures.found ∙
          first_of_groups_next c.args.groups.now c.args.nodes.now c.loop-n.n-index n c.loop-n.found.items (omega arith)
          (get_or_default c.args.nodes.now c.loop-n.n-index (record { 0 = 0 }) n (omega arith)) c.loop-n.invariant.first;
      told = c.in_ok-add_node.ensures.told;
    }
