use Rattle.std.proofs.Common.{ap}
use Rattle.resolver_encoding.specs.Notes.{notes_in}
use Rattle.resolver_encoding.specs.declared.encoding.Encoding.{Encoding}
use Rattle.resolver_encoding.specs.SoFar.{IsProgress}
use Rattle.resolvo.specs.RoundStates.{notes_of}
use Rattle.resolvo.proofs.GoingLemmas.{goes_searched, goes_trans}
use Rattle.resolvo.proofs.RoundLemmas.{room_trans}
use Rattle.resolvo.proofs.rounds.Rounds.read_after_failure.Goals as goal

pub returns : goal.returns
returns g c =
    let u = g.D.Interner.universe c.args.provider.now in
    let mid = c.decide_after_failure.new.self in
    record {
      rounds = c.in_ok-decide_after_failure.ensures.rounds;
      keeps = goes_searched u c.args.self.now mid c.decide_after_failure.ensures.same c.in_ok-decide_after_failure.ensures.turn;
      progress = ap (λ (e : Encoding g.row.N.Denot g.row.S.Denot). notes_in e) c.decide_after_failure.ensures.same.encoding;
      fit = λ none. absurd cc;
      limits = c.decide_after_failure.ensures.limits;
      refusal = tt;
    }

pub returns-then-branch : goal.returns-then-branch
returns-then-branch g c =
    let u = g.D.Interner.universe c.args.provider.now in
    let old = c.args.self.now in
    let mid = c.decide_after_failure.new.self in
    let goes = goes_searched u old mid c.decide_after_failure.ensures.same c.in_ok-decide_after_failure.ensures.turn in
    let progress : IsProgress (notes_of mid) (notes_of c.read.new.self) c.in_ok-progress.progress = c.in_ok-progress.ensures.progress in
    record {
      rounds = c.in_ok-progress.ensures.rounds;
      keeps = goes_trans u old mid c.read.new.self c.requires.rounds.variables goes c.in_ok-progress.ensures.keeps;
      progress = rw c.decide_after_failure.ensures.same.encoding at progress;
      fit = λ _. c.in_ok-progress.ensures.fit;
      limits = room_trans old mid c.read.new.self c.decide_after_failure.ensures.limits c.read.ensures.limits;
      refusal = tt;
    }

pub returns-in_err-progress-clause-limits : goal.returns-in_err-progress-clause-limits
returns-in_err-progress-clause-limits g c = room_trans _ c.decide_after_failure.new.self _ c.decide_after_failure.ensures.limits c.read.ensures.limits
