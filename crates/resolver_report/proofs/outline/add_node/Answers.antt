use Rattle.std.proofs.Common.{◌∙◌, sym}
use Rattle.resolver_report.proofs.OutlineLemmas.{add_alone}
use Rattle.resolver_report.proofs.outline.add_node.Goals as goal

pub returns-in_default-clause-found : goal.returns-in_default-clause-found
returns-in_default-clause-found c = c.in_ok-push.ensures.items ∙
    sym (add_alone c.args.groups.now c.args.found.now.items c.args.n (sym c.group_at.ensures ∙ c.in_default.is))
