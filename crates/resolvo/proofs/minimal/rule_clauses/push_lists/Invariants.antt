use Rattle.std.proofs.Common.{◌≡◌, ◌++◌}
use Rattle.resolvo.specs.RuleClauses.{list_atoms}
use Rattle.resolvo.proofs.minimal.rule_clauses.push_lists.Given as goal

abbrev pub invariant-loop-list : goal.invariant-loop-list
invariant-loop-list g l = l.atoms.items ≡ l.fn.atoms.items ++ list_atoms l.rule l.list
