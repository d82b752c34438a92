use Rattle.std.proofs.Common.{◌≡◌, take}
use Rattle.resolver_clause_store.specs.TrailView.{variable_count}
use Rattle.resolvo.specs.Propagation.{IsJustified}
use Rattle.resolvo.specs.Propagators.{IsPropagator}
use Rattle.resolvo.proofs.propagator.tests.begin.Given as goal

abbrev pub invariant-clauses : goal.invariant-clauses
invariant-clauses l = record {
  size : variable_count l.trail ≡ l.variables;
  justified : IsJustified l.table l.trail;
  propagator : IsPropagator (take l.number l.table) l.trail l.propagator;
}
