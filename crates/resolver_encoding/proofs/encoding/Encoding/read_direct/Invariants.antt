use Rattle.std.proofs.Common.{All, take}
use Rattle.resolver_encoding.specs.Encodings.{IsDisjunctRead}
use Rattle.resolver_encoding.specs.Notes.{KeepsTrue, notes_in}
use Rattle.resolver_encoding.specs.Steps.{IsRequirementStep}
use Rattle.resolver_encoding.proofs.encoding.Encoding.read_direct.Given as goal

abbrev pub invariant-loop-list : goal.invariant-loop-list
invariant-loop-list g l = record {
  room : KeepsTrue (g.D.Interner.universe l.provider) l.fn.self l.self;
  step : IsRequirementStep (g.D.Interner.universe l.provider) l.chosen.keys l.by l.requirement (notes_in l.fn.self) (notes_in l.self);
  read : All (λ list. IsDisjunctRead (notes_in l.self) l.by l.requirement.requirement list.items) (take l.list-index l.list-items);
}
