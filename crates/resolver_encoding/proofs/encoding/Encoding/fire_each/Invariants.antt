use Rattle.std.proofs.Common.{All, take}
use Rattle.resolver_encoding.specs.Notes.{KeepsTrue, notes_in}
use Rattle.resolver_encoding.specs.SoFar.{HasFired, IsFiring, IsQuietAt}
use Rattle.resolver_encoding.proofs.encoding.Encoding.fire_each.Given as goal

abbrev pub invariant-loop-number : goal.invariant-loop-number
invariant-loop-number g l = record {
  room : KeepsTrue (g.D.Interner.universe l.provider) l.fn.self l.self;
  firing : IsFiring (g.D.Interner.universe l.provider) l.chosen.keys (notes_in l.fn.self) (notes_in l.self);
  quiet : All (IsQuietAt (g.D.Interner.universe l.provider) l.chosen.keys (notes_in l.self)) (take l.number-index l.numbers);
  fired : HasFired (notes_in l.fn.self) (notes_in l.self) l.any;
}
