use Rattle.std.proofs.Common.{◌≡◌}
use Rattle.resolver_clause_store.specs.TrailView.{variable_count}
use Rattle.resolvo.specs.Propagation.{IsJustified}
use Rattle.resolvo.specs.Propagators.{IsPropagator}
use Rattle.resolvo.proofs.propagator.tests.compare.Given as goal

abbrev pub invariant-turns : goal.invariant-turns
invariant-turns l = (variable_count l.trail ≡ 10) × (variable_count l.scanned ≡ 10) × IsJustified l.table l.trail × IsPropagator l.table l.trail l.propagator
