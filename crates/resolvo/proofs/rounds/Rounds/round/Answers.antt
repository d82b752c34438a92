use Rattle.std.proofs.Common.{◌≡◌}
use Rattle.resolver_encoding.specs.SoFar.{IsProgress}
use Rattle.resolvo.specs.RoundStates.{notes_of}
use Rattle.resolvo.proofs.GoingLemmas.{goes_trans}
use Rattle.resolvo.proofs.RoundLemmas.{room_trans, round_later}
use Rattle.resolvo.proofs.rounds.Rounds.round.Goals as goal

pub returns-in_ok-round-in-Nothing : goal.returns-in_ok-round-in-Nothing
returns-in_ok-round-in-Nothing g c =
    let u = g.D.Interner.universe c.args.provider.now in
    let old = c.args.self.now in
    let mid = c.read_after_failure.new.self in
    let new = c.search_and_read.new.self in
    let known = c.requires.rounds.variables in
    let goes = c.in_ok-read_after_failure.ensures.keeps in
    let progress : IsProgress (notes_of old) (notes_of mid) c.in_ok-read_after_failure.field-0 = c.in_ok-read_after_failure.ensures.progress in
    let same : notes_of mid ≡ notes_of old = rw c.in-Nothing.is at progress in
    record {
      rounds = c.in_ok-round-in-Nothing.ensures.rounds;
      keeps = goes_trans u old mid new known goes c.in_ok-round-in-Nothing.ensures.keeps;
      round = round_later u old mid new c.in_ok-round-in-Nothing.round same c.in_ok-round-in-Nothing.ensures.round;
      limits = room_trans old mid new c.read_after_failure.ensures.limits c.search_and_read.ensures.limits;
      refusal = tt;
    }
