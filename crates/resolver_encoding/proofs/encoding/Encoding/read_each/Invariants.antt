use Rattle.std.proofs.Common.{Contains}
use Rattle.resolver_encoding.specs.Notes.{KeepsTrue, notes_in}
use Rattle.resolver_encoding.specs.SoFar.{IsHalfReading, IsMoreOrSame, IsReadingOf}
use Rattle.resolver_encoding.proofs.SoFarLemmas.{AreEach}
use Rattle.resolver_encoding.proofs.encoding.Encoding.read_each.Given as goal

abbrev pub invariant-loop-place : goal.invariant-loop-place
invariant-loop-place g l = record {
  room : KeepsTrue (g.D.Interner.universe l.provider) l.fn.self l.self;
  half : IsHalfReading (g.D.Interner.universe l.provider) (notes_in l.self);
  reading : IsReadingOf (g.D.Interner.universe l.provider) l.chosen.keys (Contains l.chosen.keys) (notes_in l.fn.self) (notes_in l.self);
  read : AreEach (Contains (notes_in l.self).read) l.chosen.keys l.from l.place;
  more : IsMoreOrSame (notes_in l.fn.self) (notes_in l.self);
}
