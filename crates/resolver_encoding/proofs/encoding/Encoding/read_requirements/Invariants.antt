use Rattle.std.proofs.Common.{All, take}
use Rattle.resolver_encoding.specs.Encodings.{IsLeft}
use Rattle.resolver_encoding.specs.Notes.{KeepsTrue, notes_in}
use Rattle.resolver_encoding.specs.ReadState.{IsReadRequirement}
use Rattle.resolver_encoding.specs.Steps.{IsRequirementsStep}
use Rattle.resolver_encoding.proofs.encoding.Encoding.read_requirements.Given as goal

abbrev pub invariant-loop-requirement : goal.invariant-loop-requirement
invariant-loop-requirement g l = record {
  room : KeepsTrue (g.D.Interner.universe l.provider) l.fn.self l.self;
  step : IsRequirementsStep (g.D.Interner.universe l.provider) l.chosen.keys l.by l.requirements (notes_in l.fn.self) (notes_in l.self);
  read : All (IsReadRequirement (g.D.Interner.universe l.provider) (notes_in l.self).kinds (IsLeft (notes_in l.self)) l.by)
      (take l.requirement-index l.requirements);
}
