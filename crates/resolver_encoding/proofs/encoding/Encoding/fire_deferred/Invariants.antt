use Rattle.resolver_encoding.specs.Notes.{KeepsTrue, notes_in}
use Rattle.resolver_encoding.specs.SoFar.{HasFired, IsFiring}
use Rattle.resolver_encoding.proofs.FiringLemmas.{AreQuiet}
use Rattle.resolver_encoding.proofs.encoding.Encoding.fire_deferred.Given as goal

abbrev pub invariant-loop-place : goal.invariant-loop-place
invariant-loop-place g l = record {
  room : KeepsTrue (g.D.Interner.universe l.provider) l.fn.self l.self;
  firing : IsFiring (g.D.Interner.universe l.provider) l.chosen.keys (notes_in l.fn.self) (notes_in l.self);
  quiet : AreQuiet (g.D.Interner.universe l.provider) l.chosen.keys (notes_in l.self) l.from l.place;
  fired : HasFired (notes_in l.fn.self) (notes_in l.self) l.any;
}
