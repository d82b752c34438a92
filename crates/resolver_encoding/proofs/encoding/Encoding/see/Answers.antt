use Rattle.std.proofs.Common.{inl, refl}
use Rattle.std.specs.Prelude.{⊤}
use Rattle.resolver_encoding.specs.Called.{IsSeeing}
use Rattle.resolver_encoding.specs.Notes.{notes_in}
use Rattle.resolver_encoding.proofs.EncodingLemmas.{IsAskStep-same}
use Rattle.resolver_encoding.proofs.RoomLemmas.{KeepsRoom-same}
use Rattle.resolver_encoding.proofs.encoding.Encoding.see.Goals as goal

pub returns-then-is_among : goal.returns-then-is_among
returns-then-is_among g c =
    let u = g.D.Interner.universe c.args.provider.now in
    let old = notes_in c.args.self.now in
    record {
      room = KeepsRoom-same _;
      step = IsAskStep-same u (IsSeeing c.args.solvable) (λ root. ⊤) old;
      seen = rw c.if-is_among.true at c.is_among.ensures;
      asked = refl;
      only = λ t h. inl h;
      plain = refl;
      refusal = tt;
    }
