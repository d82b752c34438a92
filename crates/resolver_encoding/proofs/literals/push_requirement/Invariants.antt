use Rattle.std.proofs.Common.{◌≡◌, ◌∷◌, ◌++◌, false, true, map, take}
use Rattle.resolver_clause_store.specs.Variables.{limit_in, origins_in}
use Rattle.resolver_clause_store.specs.declared.Helper.TheVariants.{Condition}
use Rattle.resolver_clause_store.specs.declared.Origin.TheVariants.{Helper, Solvable}
use Rattle.resolver_encoding.specs.Atoms.{atom}
use Rattle.resolver_encoding.specs.Encodings.{Adds, Grows}
use Rattle.resolver_encoding.proofs.literals.push_requirement.Given as goal

abbrev pub invariant-loop-version_set : goal.invariant-loop-version_set
invariant-loop-version_set g l = record {
  limit : limit_in l.variables ≡ limit_in l.fn.variables;
  grows : Grows (origins_in l.fn.variables) (origins_in l.variables);
  added : Adds (origins_in l.variables) l.fn.literals.items l.literals.items
      (atom l.fn.parent false ∷ map (λ v. atom (Helper (Condition v)) false) (take l.version_set-index l.disjunct));
}

abbrev pub invariant-loop-candidate : goal.invariant-loop-candidate
invariant-loop-candidate g l = record {
  limit : limit_in l.variables ≡ limit_in l.fn.variables;
  grows : Grows (origins_in l.fn.variables) (origins_in l.variables);
  added : Adds (origins_in l.variables) l.fn.literals.items l.literals.items (atom l.fn.parent false ∷
      (map (λ v. atom (Helper (Condition v)) false) l.disjunct ++ map (λ s. atom (Solvable s) true) (take l.candidate-index l.candidates)));
}
