use Rattle.std.proofs.Common.{All, Contains, take}
use Rattle.std.specs.Prelude.{⊤}
use Rattle.resolver_encoding.specs.Called.{IsNamedBy}
use Rattle.resolver_encoding.specs.Encodings.{IsAskStep}
use Rattle.resolver_encoding.specs.Notes.{KeepsTrue, notes_in}
use Rattle.resolver_encoding.proofs.encoding.Encoding.ask_each.Given as goal

abbrev pub invariant-loop-version_set : goal.invariant-loop-version_set
invariant-loop-version_set g l = record {
  room : KeepsTrue (g.D.Interner.universe l.provider) l.fn.self l.self;
  step : IsAskStep (g.D.Interner.universe l.provider) (IsNamedBy (g.D.Interner.universe l.provider) l.named) (λ root. ⊤) (notes_in l.fn.self) (notes_in l.self);
  asked : All (λ v. Contains (notes_in l.self).asked ((g.D.Interner.universe l.provider).version_set_name v)) (take l.version_set-index l.named);
}
