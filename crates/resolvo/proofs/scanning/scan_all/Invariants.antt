use Rattle.std.proofs.Common.{◌≡◌}
use Rattle.resolver_clause_store.specs.TrailView.{variable_count}
use Rattle.resolvo.proofs.scanning.scan_all.Given as goal

abbrev pub invariant-clauses : goal.invariant-clauses
invariant-clauses l = variable_count l.trail ≡ variable_count l.initial.trail
