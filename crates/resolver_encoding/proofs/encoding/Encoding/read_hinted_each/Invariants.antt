use Rattle.resolver_encoding.specs.Hints.{AreHintsReadTo}
use Rattle.resolver_encoding.specs.Notes.{KeepsTrue, notes_in}
use Rattle.resolver_encoding.specs.SoFar.{IsHalfReading, IsHintedReading, IsMoreOrSame}
use Rattle.resolver_encoding.proofs.encoding.Encoding.read_hinted_each.Given as goal

abbrev pub invariant-loop-place : goal.invariant-loop-place
invariant-loop-place g l = record {
  room : KeepsTrue (g.D.Interner.universe l.provider) l.fn.self l.self;
  half : IsHalfReading (g.D.Interner.universe l.provider) (notes_in l.self);
  reading : IsHintedReading (g.D.Interner.universe l.provider) l.chosen.keys l.from (notes_in l.fn.self) (notes_in l.self);
  read : AreHintsReadTo (g.D.Interner.universe l.provider) l.from l.place (notes_in l.self);
  more : IsMoreOrSame (notes_in l.fn.self) (notes_in l.self);
}
