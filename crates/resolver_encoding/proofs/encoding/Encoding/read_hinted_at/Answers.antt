use Rattle.std.proofs.Common.{subst}
use Rattle.resolver_encoding.specs.Encodings.{Notes}
use Rattle.resolver_encoding.specs.Notes.{notes_in}
use Rattle.resolver_encoding.specs.SoFar.{IsHintedReading, IsMoreOrSame}
use Rattle.resolver_encoding.proofs.RoomLemmas.{KeepsTrue-trans}
use Rattle.resolver_encoding.proofs.encoding.Encoding.read_hinted_at.Goals as goal

pub returns : goal.returns
returns g c =
    let u = g.D.Interner.universe c.args.provider.now in
    let new = notes_in c.read_candidates.new.self in
    let IsReading : Notes g.row.N.Denot g.row.S.Denot → Type 0 = λ old. IsHintedReading u c.args.chosen.now.keys c.args.place old new in
    let HasMore : Notes g.row.N.Denot g.row.S.Denot → Type 0 = λ old. IsMoreOrSame old new in
    record {
      room = KeepsTrue-trans _ _ _ c.listed_candidates.ensures.room c.read_candidates.ensures.room;
      reading = subst IsReading c.listed_candidates.ensures.same c.in_ok-read_candidates.ensures.reading;
      here = c.in_ok-read_candidates.ensures.here;
      more = subst HasMore c.listed_candidates.ensures.same c.in_ok-read_candidates.ensures.more;
      refusal = tt;
    }
