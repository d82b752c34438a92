use Rattle.std.proofs.Common.{take}
use Rattle.std.specs.List.{AllZip}
use Rattle.resolver_clause_store.specs.Variables.{Keeps}
use Rattle.resolvo.specs.RuleClauses.{IsLiteralOf}
use Rattle.resolvo.proofs.minimal.rule_clauses.literals_of.Given as goal

abbrev pub invariant-loop-atom : goal.invariant-loop-atom
invariant-loop-atom g l = record {
  keeps : Keeps l.fn.propositions.keys l.propositions.keys;
  literals : AllZip (IsLiteralOf l.propositions.keys) l.literals.items (take l.atom-index l.atoms);
}
