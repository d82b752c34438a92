use Rattle.std.proofs.Common.{take}
use Rattle.resolver_encoding.specs.Notes.{KeepsRoom, notes_in}
use Rattle.resolver_encoding.specs.SoFar.{IsIndexing}
use Rattle.std.proofs.Common.{◌≡◌}
use Rattle.resolver_encoding.proofs.encoding.Encoding.index_each.Given as goal

abbrev pub invariant-loop-version_set : goal.invariant-loop-version_set
invariant-loop-version_set g l = record {
  room : KeepsRoom l.fn.self l.self;
  indexed : IsIndexing (g.D.Interner.universe l.provider) l.number (take l.version_set-index l.disjunct) (notes_in l.fn.self) (notes_in l.self);
  origins : (notes_in l.self).origins ≡ (notes_in l.fn.self).origins;
  still : (notes_in l.self).deferred ≡ (notes_in l.fn.self).deferred;
}
