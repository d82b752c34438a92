use Rattle.std.proofs.Common.{◌≡◌, All, Contains, take}
use Rattle.std.specs.Prelude.{⊤}
use Rattle.resolver_clause_store.specs.declared.ClauseKind.TheVariants.{Lock}
use Rattle.resolver_encoding.specs.Encodings.{IsStepWhile, asking_for}
use Rattle.resolver_encoding.specs.Notes.{KeepsRoom, notes_in}
use Rattle.resolver_encoding.specs.Turns.{AddsPlainly}
use Rattle.resolver_encoding.proofs.encoding.Encoding.lock_out_others.Given as goal

abbrev pub invariant-loop-candidate : goal.invariant-loop-candidate
invariant-loop-candidate g l = record {
  room : KeepsRoom l.fn.self l.self;
  step : IsStepWhile (g.D.Interner.universe l.provider) (asking_for l.name) (λ root. ⊤) (notes_in l.fn.self) (notes_in l.self);
  forbidden : All (λ s. (s ≡ l.locked → ⊥) → (Contains (notes_in l.fn.self).exempt s → ⊥) → Contains (notes_in l.self).kinds (Lock l.locked s))
      (take l.candidate-index l.listed);
  plain : AddsPlainly (notes_in l.fn.self) (notes_in l.self);
}
