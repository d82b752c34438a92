use Rattle.std.proofs.Common.{All, Contains, take}
use Rattle.std.specs.Prelude.{⊤}
use Rattle.resolver_clause_store.specs.declared.ClauseKind.TheVariants.{Excluded}
use Rattle.resolver_encoding.specs.Encodings.{IsStepWhile, asking_for}
use Rattle.resolver_encoding.specs.Notes.{KeepsRoom, notes_in}
use Rattle.resolver_encoding.specs.Turns.{AddsPlainly}
use Rattle.resolver_encoding.proofs.encoding.Encoding.exclude_each.Given as goal

abbrev pub invariant-loop-solvable : goal.invariant-loop-solvable
invariant-loop-solvable g l = record {
  room : KeepsRoom l.fn.self l.self;
  step : IsStepWhile (g.D.Interner.universe l.provider) (asking_for l.name) (λ root. ⊤) (notes_in l.fn.self) (notes_in l.self);
  read : All (λ e. (Contains (notes_in l.fn.self).exempt e.0 → ⊥) → Contains (notes_in l.self).kinds (Excluded e.0 e.1)) (take l.solvable-index l.excluded);
  plain : AddsPlainly (notes_in l.fn.self) (notes_in l.self);
}
