use Rattle.std.proofs.Common.{take}
use Rattle.std.specs.List.{AllZip}
use Rattle.resolvo.specs.RuleClauses.{HasCode}
use Rattle.resolvo.proofs.minimal.rule_codes.codes_among.Given as goal

abbrev pub invariant-loop-rule : goal.invariant-loop-rule
invariant-loop-rule g l = AllZip (HasCode l.instances.keys) (take l.rule-index l.rules) l.codes.items
