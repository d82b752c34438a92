use Rattle.resolvo.specs.AddedLines.{AddsLines}
use Rattle.resolvo.specs.RuleClauses.{bit_lines}
use Rattle.resolvo.proofs.minimal.rule_clauses.add_bits.Given as goal

abbrev pub invariant-loop-index : goal.invariant-loop-index
invariant-loop-index g l = AddsLines l.fn.draft l.draft (bit_lines l.rule l.name l.instance l.code l.index)
