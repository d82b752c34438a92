use Rattle.std.proofs.Common.{◌≡◌, ◌<◌, ℕ, Contains}
use Rattle.std.specs.Prelude.{⊤}
use Rattle.resolver_clause_store.specs.declared.ClauseKind.TheVariants.{Implies}
use Rattle.resolver_clause_store.specs.declared.Helper.TheVariants.{Bit}
use Rattle.resolver_encoding.specs.Codes.{bit}
use Rattle.resolver_encoding.specs.Encodings.{IsStepWhile, coding_for}
use Rattle.resolver_encoding.specs.Notes.{KeepsRoom, notes_in}
use Rattle.resolver_encoding.specs.Turns.{AddsPlainly}
use Rattle.resolver_encoding.proofs.encoding.Encoding.add_code.Given as goal

abbrev pub invariant-loop-index : goal.invariant-loop-index
invariant-loop-index g l = record {
  room : KeepsRoom l.fn.self l.self;
  step : IsStepWhile (g.D.Interner.universe l.provider) (coding_for l.name l.number l.solvable) (λ root. ⊤) (notes_in l.fn.self) (notes_in l.self);
  code : (i : ℕ) → i < l.index → Contains (notes_in l.self).kinds (Implies l.solvable (Bit l.name i) (bit l.number i));
  groups : (notes_in l.self).groups ≡ (notes_in l.fn.self).groups;
  plain : AddsPlainly (notes_in l.fn.self) (notes_in l.self);
}
