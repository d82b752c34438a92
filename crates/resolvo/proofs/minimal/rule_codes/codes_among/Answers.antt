use Rattle.std.proofs.Common.{arith}
use Rattle.std.proofs.lemmas.List.{take_all}
use Rattle.resolvo.proofs.RuleClauseLemmas.{codes_next}
use Rattle.resolvo.proofs.minimal.rule_codes.codes_among.Goals as goal

pub loop-rule-preserved : goal.loop-rule-preserved
loop-rule-preserved g c =
    let made = c.in_ok-code_of.ensures in
    rw c.in_ok-push.ensures.items (codes_next _ _ c.args.rules.now _ c.loop-rule.rule-index c.rule-item.result _ c.loop-rule.invariant made.keeps
    c.loop-rule-test.true c.rule-item.is made.coded)

pub returns : goal.returns
returns g c = rw (take_all c.loop-rule.rule-index c.args.rules.now (omega arith)) at c.loop-rule.invariant
