use Rattle.std.proofs.Common.{◌∙◌, refl}
use Rattle.resolvo.specs.RoundStates.{IsRound}
use Rattle.resolvo.proofs.RoundLemmas.{room_trans, room_same}
use Rattle.resolvo.proofs.GoingLemmas.{goes_trans, goes_begin}
use Rattle.resolvo.proofs.rounds.Rounds.rounds_until_read.Goals as goal

pub returns-in-Last : goal.returns-in-Last
returns-in-Last g c =
    record {
      rounds = c.in_ok-found.ensures.rounds;
      keeps = goes_trans (g.D.Interner.universe c.args.provider.now) c.args.self.now c.rounds.self c.round.new.self c.requires.rounds.variables c.rounds.invariant.keeps
          c.in_ok-found.ensures.keeps;
      found = let round : IsRound (g.D.Interner.universe c.args.provider.now) c.rounds.self c.round.new.self c.in_ok-found.field-0 = c.in_ok-found.ensures.round in
          rw c.in-Last.is at round;
      read = tt;
      fit = tt;
      limits = room_trans c.args.self.now c.rounds.self c.round.new.self c.rounds.invariant.room c.in_ok-found.ensures.limits;
      refusal = tt;
    }

pub returns-in-Read : goal.returns-in-Read
returns-in-Read g c =
    record {
      rounds = c.in_ok-found.ensures.rounds;
      keeps = goes_trans (g.D.Interner.universe c.args.provider.now) c.args.self.now c.rounds.self c.round.new.self c.requires.rounds.variables c.rounds.invariant.keeps
          c.in_ok-found.ensures.keeps;
      found = tt;
      read = let round : IsRound (g.D.Interner.universe c.args.provider.now) c.rounds.self c.round.new.self c.in_ok-found.field-0 = c.in_ok-found.ensures.round in
          let read = rw c.in-Read.is at round in
          rw c.rounds.invariant.read at read.0;
      fit = let round : IsRound (g.D.Interner.universe c.args.provider.now) c.rounds.self c.round.new.self c.in_ok-found.field-0 = c.in_ok-found.ensures.round in
          let read = rw c.in-Read.is at round in
          read.1;
      limits = room_trans c.args.self.now c.rounds.self c.round.new.self c.rounds.invariant.room c.in_ok-found.ensures.limits;
      refusal = tt;
    }

pub rounds-preserved : goal.rounds-preserved
rounds-preserved g c =
    let round : IsRound (g.D.Interner.universe c.args.provider.now) c.rounds.self c.round.new.self c.in_ok-found.field-0 = c.in_ok-found.ensures.round in
    let fired = rw c.in-Fired.is at round in
    record {
      rounds = c.in_ok-found.ensures.rounds;
      keeps = goes_trans (g.D.Interner.universe c.args.provider.now) c.args.self.now c.rounds.self c.round.new.self c.requires.rounds.variables
          c.rounds.invariant.keeps c.in_ok-found.ensures.keeps;
      room = room_trans c.args.self.now c.rounds.self c.round.new.self c.rounds.invariant.room c.in_ok-found.ensures.limits;
      read = fired.0 ∙ c.rounds.invariant.read;
    }

pub rounds-init : goal.rounds-init
rounds-init g c =
    let u = g.D.Interner.universe c.args.provider.now in
    let self = c.args.self.now in
    record {
      rounds = c.requires.rounds;
      keeps = goes_begin u self;
      room = room_same self;
      read = refl;
    }

pub rounds-smaller : goal.rounds-smaller
rounds-smaller g c =
    let round : IsRound (g.D.Interner.universe c.args.provider.now) c.rounds.self c.round.new.self c.in_ok-found.field-0 = c.in_ok-found.ensures.round in
    let fired = rw c.in-Fired.is at round in
    fired.1
