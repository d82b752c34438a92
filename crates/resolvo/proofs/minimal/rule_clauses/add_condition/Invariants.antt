use Rattle.std.proofs.Common.{take}
use Rattle.resolvo.specs.AddedLines.{AddsLines}
use Rattle.resolvo.specs.RuleClauses.{condition_lines}
use Rattle.resolvo.proofs.minimal.rule_clauses.add_condition.Given as goal

abbrev pub invariant-loop-list : goal.invariant-loop-list
invariant-loop-list g l = AddsLines l.fn.draft l.draft (condition_lines l.rule 0 (take l.list l.when))
