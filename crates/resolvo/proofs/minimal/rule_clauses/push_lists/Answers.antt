use Rattle.resolvo.proofs.RuleClauseLemmas.{lists_next}
use Rattle.resolvo.proofs.minimal.rule_clauses.push_lists.Goals as goal

pub loop-list-preserved : goal.loop-list-preserved
loop-list-preserved g c = lists_next _ _ _ c.args.rule c.loop-list.list c.loop-list.invariant c.in_ok-push.ensures.items
