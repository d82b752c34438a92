use Rattle.resolvo.proofs.DecideLemmas.{clauses_decide}
use Rattle.resolvo.proofs.minimal.rule_clauses.clauses_decide_rules.Goals as goal

-- src/minimal/rule_clauses.rt:41:1
pub returns : goal.returns
returns g c = λ rules propositions clauses are.
    clauses_decide g.N.PartialEq.eq g.S.PartialEq.eq c.requires.names c.requires.solvables rules propositions clauses are
