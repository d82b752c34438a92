use Rattle.std.proofs.Common.{◌≡◌}
use Rattle.resolver_clause_store.specs.TrailView.{variable_count}
use Rattle.resolvo.proofs.scanning.propagate.Given as goal

abbrev pub invariant-passes : goal.invariant-passes
invariant-passes l = variable_count l.trail ≡ variable_count l.initial.trail
