use Rattle.std.proofs.Common.{arith}
use Rattle.std.proofs.lemmas.List.{take_all}
use Rattle.resolver_clause_store.proofs.PlaceLemmas.{Keeps-trans}
use Rattle.resolvo.proofs.RuleClauseLemmas.{literals_next}
use Rattle.resolvo.proofs.minimal.rule_clauses.literals_of.Goals as goal

pub loop-atom-preserved : goal.loop-atom-preserved
loop-atom-preserved g c =
    let before = c.loop-atom.invariant in
    let made = c.in_ok-literal_of.ensures in
    record {
      keeps = Keeps-trans _ _ _ before.keeps made.keeps;
      literals = rw c.in_ok-push.ensures.items
          (literals_next _ _ c.args.atoms.now _ c.loop-atom.atom-index c.atom-item.result _ before.literals made.keeps c.loop-atom-test.true c.atom-item.is
          made.literal);
    }

pub returns-clause-literals : goal.returns-clause-literals
returns-clause-literals g c = rw (take_all c.loop-atom.atom-index c.args.atoms.now (omega arith)) at c.loop-atom.invariant.literals
