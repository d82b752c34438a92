use Rattle.std.proofs.Common.{◌≡◌, All, Contains, take, false}
use Rattle.std.specs.Prelude.{⊤}
use Rattle.resolver_clause_store.specs.declared.ClauseKind.TheVariants.{Implies}
use Rattle.resolver_clause_store.specs.declared.Helper.TheVariants.{Bit}
use Rattle.resolver_encoding.specs.Encodings.{IsStepWhile, coding_for}
use Rattle.resolver_encoding.specs.Notes.{KeepsRoom, notes_in}
use Rattle.resolver_encoding.specs.Turns.{AddsPlainly}
use Rattle.resolver_encoding.proofs.encoding.Encoding.begin_digit.Given as goal

abbrev pub invariant-loop-other : goal.invariant-loop-other
invariant-loop-other g l = record {
  room : KeepsRoom l.fn.self l.self;
  step : IsStepWhile (g.D.Interner.universe l.provider) (coding_for l.fn.name l.fn.number l.fn.solvable) (λ root. ⊤) (notes_in l.fn.self) (notes_in l.self);
  begun : All (λ t. Contains (notes_in l.self).kinds (Implies t (Bit l.name l.index) false)) (take l.other-index l.other-items);
  groups : (notes_in l.self).groups ≡ (notes_in l.fn.self).groups;
  plain : AddsPlainly (notes_in l.fn.self) (notes_in l.self);
}
