use Rattle.resolvo.proofs.RuleClauseLemmas.{AppendsLines-none, bits_next}
use Rattle.resolvo.proofs.minimal.rule_clauses.add_bits.Goals as goal

pub loop-index-init : goal.loop-index-init
loop-index-init g c = AppendsLines-none _ _

pub loop-index-preserved : goal.loop-index-preserved
loop-index-preserved g c = bits_next _ _ _ _ _ _ c.args.rule c.args.name c.args.instance c.args.code c.loop-index.index c.has_digit.result
    c.loop-index.invariant c.has_digit.ensures c.in_ok-add_pair.ensures
