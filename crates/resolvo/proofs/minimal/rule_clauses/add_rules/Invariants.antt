use Rattle.std.proofs.Common.{take}
use Rattle.resolvo.specs.AddedLines.{AddsLines}
use Rattle.resolvo.specs.RuleClauses.{all_lines}
use Rattle.resolvo.proofs.minimal.rule_clauses.add_rules.Given as goal

abbrev pub invariant-loop-place : goal.invariant-loop-place
invariant-loop-place g l = AddsLines l.fn.draft l.draft (all_lines l.width 0 (take l.place l.rules) (take l.place l.codes))
