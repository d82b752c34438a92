use Rattle.std.proofs.Common.{All, take}
use Rattle.resolver_encoding.specs.Encodings.{AreNamesAsked, IsConstraintRead}
use Rattle.resolver_encoding.specs.Notes.{KeepsTrue, notes_in}
use Rattle.resolver_encoding.specs.Steps.{IsConstraintsStep}
use Rattle.resolver_encoding.proofs.encoding.Encoding.read_constraints.Given as goal

abbrev pub invariant-loop-version_set : goal.invariant-loop-version_set
invariant-loop-version_set g l = record {
  room : KeepsTrue (g.D.Interner.universe l.provider) l.fn.self l.self;
  step : IsConstraintsStep (g.D.Interner.universe l.provider) l.by l.constraints (notes_in l.fn.self) (notes_in l.self);
  read : All (IsConstraintRead (g.D.Interner.universe l.provider) (notes_in l.self).kinds l.by) (take l.version_set-index l.constraints);
  asked : AreNamesAsked (g.D.Interner.universe l.provider) (notes_in l.self) (take l.version_set-index l.constraints);
}
