use Rattle.resolvo.proofs.RuleClauseLemmas.{AppendsLines-trans}
use Rattle.resolvo.proofs.minimal.rule_clauses.add_requirement.Goals as goal

pub returns : goal.returns
returns g c = AppendsLines-trans _ _ _ _ _ _ _ _ (rw (c.deref.ensures.value, c.in_ok-atoms.ensures) at c.in_ok-add_requirement_clause.ensures)
    c.in_ok-add_condition.ensures
