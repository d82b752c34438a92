use Rattle.std.proofs.Common.{All, Contains, take}
use Rattle.std.specs.Prelude.{⊤}
use Rattle.resolver_encoding.specs.Called.{IsSeeingEach}
use Rattle.resolver_encoding.specs.Encodings.{IsAskStep}
use Rattle.resolver_encoding.specs.Notes.{KeepsRoom, notes_in}
use Rattle.resolver_encoding.proofs.encoding.Encoding.see_all.Given as goal

abbrev pub invariant-loop-candidate : goal.invariant-loop-candidate
invariant-loop-candidate g l = record {
  room : KeepsRoom l.fn.self l.self;
  step : IsAskStep (g.D.Interner.universe l.provider) (IsSeeingEach l.candidates) (λ root. ⊤) (notes_in l.fn.self) (notes_in l.self);
  seen : All (Contains (notes_in l.self).seen) (take l.candidate-index l.candidates);
}
