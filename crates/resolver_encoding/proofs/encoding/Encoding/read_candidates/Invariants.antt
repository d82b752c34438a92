use Rattle.std.proofs.Common.{take}
use Rattle.std.specs.Prelude.{IfSome}
use Rattle.resolver_encoding.specs.Hints.{AreReadIfHinted, HintsAtNone}
use Rattle.resolver_encoding.specs.Notes.{KeepsTrue, notes_in}
use Rattle.resolver_encoding.specs.SoFar.{IsHalfReading, IsHintedReading, IsMoreOrSame}
use Rattle.resolver_encoding.proofs.encoding.Encoding.read_candidates.Given as goal

abbrev pub invariant-loop-candidate : goal.invariant-loop-candidate
invariant-loop-candidate g l = record {
  room : KeepsTrue (g.D.Interner.universe l.provider) l.fn.self l.self;
  half : IsHalfReading (g.D.Interner.universe l.provider) (notes_in l.self);
  reading : IsHintedReading (g.D.Interner.universe l.provider) l.chosen.keys l.place (notes_in l.fn.self) (notes_in l.self);
  read : AreReadIfHinted (g.D.Interner.universe l.provider) (notes_in l.self) (take l.candidate-index l.candidates);
  more : IsMoreOrSame (notes_in l.fn.self) (notes_in l.self);
  hintless : IfSome l.hintless (HintsAtNone (g.D.Interner.universe l.provider));
}
