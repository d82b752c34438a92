use Rattle.resolvo.proofs.RuleClauseLemmas.{AppendsLines-none, rules_next}
use Rattle.resolvo.proofs.minimal.rule_clauses.add_rules.Goals as goal

pub loop-place-init : goal.loop-place-init
loop-place-init g c = AppendsLines-none _ _

pub loop-place-preserved : goal.loop-place-preserved
loop-place-preserved g c = rules_next _ _ _ _ _ _ c.args.width c.args.rules.now c.args.codes.now c.loop-place.place c.index-rules-place.result 0 c.requires.size
    c.loop-place.invariant c.loop-place-test.true c.index-rules-place.is c.in_ok-add_rule.ensures
