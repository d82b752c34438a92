use Rattle.std.proofs.Common.{length, ◌-◌, ◌≤◌}
use Rattle.resolver_encoding.specs.Hints.{AreHintsReadTo}
use Rattle.resolver_encoding.specs.Notes.{KeepsTrue, notes_in}
use Rattle.resolver_encoding.specs.SoFar.{HasRead, IsHalfReading, IsHintedReading}
use Rattle.resolver_encoding.proofs.encoding.Encoding.read_hinted.Given as goal

abbrev pub invariant-waves : goal.invariant-waves
invariant-waves g l = record {
  room : KeepsTrue (g.D.Interner.universe l.provider) l.fn.self l.self;
  half : IsHalfReading (g.D.Interner.universe l.provider) (notes_in l.self);
  reading : IsHintedReading (g.D.Interner.universe l.provider) l.chosen.keys l.from (notes_in l.fn.self) (notes_in l.self);
  forward : l.from ≤ l.place;
  within : l.place ≤ length (notes_in l.self).kinds;
  read : AreHintsReadTo (g.D.Interner.universe l.provider) l.from l.place (notes_in l.self);
  any_new : HasRead (notes_in l.fn.self) (notes_in l.self) l.any;
}

abbrev pub decreases-waves : goal.decreases-waves
decreases-waves g l = (notes_in l.self).variable_limit - length (notes_in l.self).read
