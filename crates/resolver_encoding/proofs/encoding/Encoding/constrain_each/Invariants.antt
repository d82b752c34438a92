use Rattle.std.proofs.Common.{All, take}
use Rattle.resolver_encoding.specs.Encodings.{HasConstraint, IsStepWhile, idle}
use Rattle.resolver_encoding.specs.Notes.{KeepsRoom, notes_in}
use Rattle.resolver_encoding.specs.Read.{IsForbidden}
use Rattle.resolver_encoding.proofs.encoding.Encoding.constrain_each.Given as goal

abbrev pub invariant-loop-candidate : goal.invariant-loop-candidate
invariant-loop-candidate g l = record {
  room : KeepsRoom l.fn.self l.self;
  step : IsStepWhile (g.D.Interner.universe l.provider) idle (HasConstraint (g.D.Interner.universe l.provider) l.by l.version_set) (notes_in l.fn.self)
      (notes_in l.self);
  read : All (IsForbidden (notes_in l.self).kinds l.by l.version_set) (take l.candidate-index l.forbidden);
}
