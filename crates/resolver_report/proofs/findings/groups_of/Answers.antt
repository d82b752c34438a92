use Rattle.std.proofs.Common.{ap, arith, length}
use Rattle.std.proofs.lemmas.Grind.{common_steps}
use Rattle.resolver_report.proofs.GroupLemmas.{made_groups}
use Rattle.resolver_report.proofs.ListLemmas.{map-range-next}
use Rattle.resolver_report.proofs.findings.groups_of.Goals as goal

pub loop-n-preserved : goal.loop-n-preserved
loop-n-preserved g c = grind (arith, common_steps, map-range-next)

pub returns-clause-value : goal.returns-clause-value
returns-clause-value g c n = made_groups (g.I.Interner.universe c.args.interner.now) c.args.graph.now.graph c.loop-n.found.items c.loop-n.n c.loop-n.invariant
    (omega (arith, ap length c.nodes-nodes.ensures.value)) n
