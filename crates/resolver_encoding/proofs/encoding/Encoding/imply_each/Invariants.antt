use Rattle.std.proofs.Common.{◌≡◌, All, Contains, take, true}
use Rattle.std.specs.Prelude.{⊤}
use Rattle.resolver_clause_store.specs.declared.ClauseKind.TheVariants.{Implies}
use Rattle.resolver_encoding.specs.Encodings.{IsStepWhile, idle}
use Rattle.resolver_encoding.specs.Notes.{KeepsRoom, notes_in}
use Rattle.resolver_encoding.proofs.encoding.Encoding.imply_each.Given as goal

abbrev pub invariant-loop-candidate : goal.invariant-loop-candidate
invariant-loop-candidate g l = record {
  room : KeepsRoom l.fn.self l.self;
  step : IsStepWhile (g.D.Interner.universe l.provider) idle (λ root. ⊤) (notes_in l.fn.self) (notes_in l.self);
  implied : All (λ s. Contains (notes_in l.self).kinds (Implies s l.helper true)) (take l.candidate-index l.candidates);
  helped : (notes_in l.self).helped ≡ (notes_in l.fn.self).helped;
  constrained : (notes_in l.self).constrained ≡ (notes_in l.fn.self).constrained;
}
