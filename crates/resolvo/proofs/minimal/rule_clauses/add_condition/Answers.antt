use Rattle.resolvo.proofs.RuleClauseLemmas.{AppendsLines-none, condition_next}
use Rattle.resolvo.proofs.minimal.rule_clauses.add_condition.Goals as goal

pub loop-list-init : goal.loop-list-init
loop-list-init g c = AppendsLines-none _ _

pub loop-list-preserved : goal.loop-list-preserved
loop-list-preserved g c = condition_next _ _ _ _ _ _ c.args.rule c.args.when.now c.loop-list.list c.index-when-list.result c.loop-list.invariant
    c.loop-list-test.true c.index-when-list.is (rw c.deref.ensures.value at c.in_ok-add_members.ensures)
