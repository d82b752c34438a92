use Rattle.resolver_report.proofs.EdgePlaceLemmas.{pushed}
use Rattle.resolver_report.proofs.graph.push_at.Goals as goal

pub returns-clause-ok : goal.returns-clause-ok
returns-clause-ok g c = pushed c.args.lists.now.items c.args.place c.push.new.self c.index_mut.result.now c.args.item c.requires c.index_mut.ensures.value
    c.in_ok-push.ensures.items
