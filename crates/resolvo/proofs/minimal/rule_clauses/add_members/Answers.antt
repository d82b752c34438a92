use Rattle.resolvo.proofs.RuleClauseLemmas.{AppendsLines-none, members_next}
use Rattle.std.proofs.lemmas.List.{take_all}
use Rattle.resolvo.proofs.minimal.rule_clauses.add_members.Goals as goal

pub loop-member-init : goal.loop-member-init
loop-member-init g c = AppendsLines-none _ _

pub loop-member-preserved : goal.loop-member-preserved
loop-member-preserved g c = members_next _ _ _ _ _ _ c.args.rule c.args.list c.args.members.now c.loop-member.member-index c.member-item.result
    c.loop-member.invariant c.loop-member-test.true c.member-item.is c.in_ok-add_pair.ensures

pub returns : goal.returns
returns g c = rw (take_all c.loop-member.member-index c.args.members.now c.loop-member-test.false) at c.loop-member.invariant
