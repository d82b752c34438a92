use Rattle.resolver_encoding.specs.Called.{IsPlainlyNamedByEach}
use Rattle.resolver_encoding.specs.Notes.{KeepsTrue, notes_in}
use Rattle.resolver_encoding.specs.Steps.{CallsOnly}
use Rattle.resolver_encoding.proofs.encoding.Encoding.ask_plain_each.Given as goal

abbrev pub invariant-loop-requirement : goal.invariant-loop-requirement
invariant-loop-requirement g l = record {
  room : KeepsTrue (g.D.Interner.universe l.provider) l.fn.self l.self;
  step : let u = g.D.Interner.universe l.provider in CallsOnly u (IsPlainlyNamedByEach u l.requirements) (notes_in l.fn.self) (notes_in l.self);
}
