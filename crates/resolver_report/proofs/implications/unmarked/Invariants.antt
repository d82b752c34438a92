use Rattle.std.proofs.Common.{◌≡◌, length, map, take}
use Rattle.resolver_report.proofs.implications.unmarked.Given as goal

abbrev pub invariant-loop-implication : goal.invariant-loop-implication
invariant-loop-implication l = l.left.items ≡ map (λ i. length i.groups.items) (take l.implication-index l.implications)
