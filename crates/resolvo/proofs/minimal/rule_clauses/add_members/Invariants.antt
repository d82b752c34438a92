use Rattle.std.proofs.Common.{take}
use Rattle.resolvo.specs.AddedLines.{AddsLines}
use Rattle.resolvo.specs.RuleClauses.{member_lines}
use Rattle.resolvo.proofs.minimal.rule_clauses.add_members.Given as goal

abbrev pub invariant-loop-member : goal.invariant-loop-member
invariant-loop-member g l = AddsLines l.fn.draft l.draft (member_lines l.rule l.list (take l.member-index l.members))
