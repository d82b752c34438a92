use Rattle.std.proofs.Common.{◌≤◌}
use Rattle.resolve.proofs.NumberLemmas.{ReadsDigits}
use Rattle.resolve.proofs.words.parse_digits.Given as goal

abbrev pub invariant-loop-digit : goal.invariant-loop-digit
invariant-loop-digit l = record {
  within : l.number ≤ l.most;
  reads : ReadsDigits l.text l.digit-index l.number;
}
