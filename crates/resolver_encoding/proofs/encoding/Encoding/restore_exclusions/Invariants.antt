use Rattle.std.proofs.Common.{◌≡◌, All, Contains, take}
use Rattle.std.specs.Prelude.{⊤}
use Rattle.resolver_clause_store.specs.declared.ClauseKind.TheVariants.{Excluded}
use Rattle.resolver_encoding.specs.Encodings.{IsStepWhile, owing_for}
use Rattle.resolver_encoding.specs.Notes.{KeepsRoom, notes_in}
use Rattle.resolver_encoding.specs.Turns.{AddsPlainly}
use Rattle.resolver_encoding.proofs.encoding.Encoding.restore_exclusions.Given as goal

abbrev pub invariant-loop-other : goal.invariant-loop-other
invariant-loop-other g l = record {
  room : KeepsRoom l.fn.self l.self;
  step : IsStepWhile (g.D.Interner.universe l.provider) (owing_for l.solvable) (λ root. ⊤) (notes_in l.fn.self) (notes_in l.self);
  plain : AddsPlainly (notes_in l.fn.self) (notes_in l.self);
  restored : All (λ e. e.0 ≡ l.solvable → (Contains (notes_in l.fn.self).exempt l.solvable → ⊥) → Contains (notes_in l.self).kinds (Excluded e.0 e.1))
      (take l.other-index l.excluded);
}
