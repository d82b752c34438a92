use Rattle.resolver_report.proofs.SimplifyLemmas.{shared_group}
use Rattle.resolver_report.proofs.simplify.group_of.Goals as goal

pub returns-in-Some-clause-value : goal.returns-in-Some-clause-value
returns-in-Some-clause-value g c = λ ks n are before.
    shared_group g.S.PartialEq.eq ks c.args.graph.now n c.args.groups.now c.in-Some.group.now c.in_ok-clone.field-0 c.args.class.now are
    c.in-len2-up.len_at_least before c.in-Some.ensures c.in_ok-clone.ensures.cases
