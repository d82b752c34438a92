use Rattle.std.proofs.Common.{All, Contains, take}
use Rattle.std.specs.Prelude.{⊤}
use Rattle.resolver_encoding.specs.Encodings.{IsStepWhile, idle}
use Rattle.resolver_encoding.specs.Notes.{KeepsTrue, notes_in}
use Rattle.resolver_encoding.proofs.encoding.Encoding.help_each.Given as goal

abbrev pub invariant-loop-version_set : goal.invariant-loop-version_set
invariant-loop-version_set g l = record {
  room : KeepsTrue (g.D.Interner.universe l.provider) l.fn.self l.self;
  step : IsStepWhile (g.D.Interner.universe l.provider) idle (λ root. ⊤) (notes_in l.fn.self) (notes_in l.self);
  helped : All (Contains (notes_in l.self).helped) (take l.version_set-index l.disjunct);
}
