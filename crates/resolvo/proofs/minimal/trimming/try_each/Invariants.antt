use Rattle.std.proofs.Common.{◌≡◌, length}
use Rattle.resolver_clause_store.specs.Rules.{IsRefuted}
use Rattle.resolvo.specs.Minimal.{only_marked}
use Rattle.resolvo.proofs.minimal.trimming.try_each.Given as goal

-- the marked rules are refuted if those that were marked first are
abbrev pub invariant-turns : goal.invariant-turns
invariant-turns g l = record {
  size : length l.marks.items ≡ length l.rules;
  refuted : IsRefuted (only_marked l.initial.marks.items l.rules) → IsRefuted (only_marked l.marks.items l.rules);
}
