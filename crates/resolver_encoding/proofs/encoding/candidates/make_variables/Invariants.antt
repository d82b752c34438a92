use Rattle.std.proofs.Common.{◌≡◌}
use Rattle.resolver_clause_store.specs.Variables.{limit_in, origins_in}
use Rattle.resolver_encoding.specs.Encodings.{Grows}
use Rattle.resolver_encoding.proofs.encoding.candidates.make_variables.Given as goal

abbrev pub invariant-loop-candidate : goal.invariant-loop-candidate
invariant-loop-candidate g l = record {
  limit : limit_in l.variables ≡ limit_in l.fn.variables;
  grows : Grows (origins_in l.fn.variables) (origins_in l.variables);
}
