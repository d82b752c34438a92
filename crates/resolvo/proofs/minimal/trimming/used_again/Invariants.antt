use Rattle.std.proofs.Common.{◌≡◌, length}
use Rattle.resolver_clause_store.specs.Rules.{IsRefuted}
use Rattle.resolvo.specs.Minimal.{only_marked}
use Rattle.resolvo.proofs.minimal.trimming.used_again.Given as goal

-- the marked rules are refuted if all rules are
abbrev pub invariant-searches : goal.invariant-searches
invariant-searches g l = record {
  size : length l.marks.items ≡ length l.rules;
  refuted : IsRefuted l.rules → IsRefuted (only_marked l.marks.items l.rules);
}
