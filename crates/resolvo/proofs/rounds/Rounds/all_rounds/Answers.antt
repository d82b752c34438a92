use Rattle.resolvo.proofs.RoundLemmas.{room_trans, room_same}
use Rattle.resolvo.proofs.GoingLemmas.{goes_trans, goes_begin}
use Rattle.std.proofs.Common.{arith}
use Rattle.resolvo.proofs.rounds.Rounds.all_rounds.Goals as goal

pub returns-in-Some : goal.returns-in-Some
returns-in-Some g c =
    record {
      rounds = c.in_ok-found.ensures.rounds;
      keeps = goes_trans (g.D.Interner.universe c.args.provider.now) c.args.self.now c.rounds.self c.rounds_until_read.new.self c.requires.rounds.variables
          c.rounds.invariant.keeps c.in_ok-found.ensures.keeps;
      found = rw c.in-Some.is at c.in_ok-found.ensures.found;
      limits = room_trans c.args.self.now c.rounds.self c.rounds_until_read.new.self c.rounds.invariant.room c.in_ok-found.ensures.limits;
      refusal = tt;
    }

pub rounds-preserved : goal.rounds-preserved
rounds-preserved g c = record {
  rounds = c.in_ok-found.ensures.rounds;
  keeps = goes_trans (g.D.Interner.universe c.args.provider.now) c.args.self.now c.rounds.self c.rounds_until_read.new.self c.requires.rounds.variables
      c.rounds.invariant.keeps c.in_ok-found.ensures.keeps;
  room = room_trans c.args.self.now c.rounds.self c.rounds_until_read.new.self c.rounds.invariant.room c.in_ok-found.ensures.limits;
}

pub rounds-init : goal.rounds-init
rounds-init g c =
    let u = g.D.Interner.universe c.args.provider.now in
    let self = c.args.self.now in
    record {
      rounds = c.requires.rounds;
      keeps = goes_begin u self;
      room = room_same self;
    }

pub rounds-smaller : goal.rounds-smaller
rounds-smaller g c =
    let read = rw c.in-None.is at c.in_ok-found.ensures.read in
    let fit = rw c.in-None.is at c.in_ok-found.ensures.fit in
    omega (arith, read, fit, c.in_ok-found.ensures.limits.variables)
