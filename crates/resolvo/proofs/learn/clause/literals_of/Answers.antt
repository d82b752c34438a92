use Rattle.std.proofs.Common.{rules}
use Rattle.std.proofs.lemmas.List.{take_all}
use Rattle.resolvo.proofs.ListedLemmas.{listed-all, listed-more}
use Rattle.resolvo.proofs.learn.clause.literals_of.Goals as goal

pub variables-preserved : goal.variables-preserved
variables-preserved c = listed-more _ _ _ _ c.args.marked.now _ c.variable-item.result c.variables.invariant c.variables-test.true
    (rw c.variable-item.is at c.in_ok-add_negation.ensures)

pub returns : goal.returns
returns c = listed-all _ _ _ c.args.marked.now _ c.requires.listed (take_all c.variables.variable-index c.args.marked.now (search rules)) c.variables.invariant
