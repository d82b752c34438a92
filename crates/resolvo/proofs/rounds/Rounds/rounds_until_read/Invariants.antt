use Rattle.std.proofs.Common.{◌≡◌}
use Rattle.resolver_encoding.specs.SoFar.{left_count}
use Rattle.resolvo.specs.RoundStates.{AreRounds, GoesOn, KeepsRoundLimits, notes_of}
use Rattle.resolvo.proofs.rounds.Rounds.rounds_until_read.Given as goal

abbrev pub invariant-rounds : goal.invariant-rounds
invariant-rounds g l = record {
  rounds : AreRounds (g.D.Interner.universe l.provider) l.self;
  keeps : GoesOn (g.D.Interner.universe l.provider) l.initial.self l.self;
  room : KeepsRoundLimits (g.D.Interner.universe l.provider) l.initial.self l.self;
  read : (notes_of l.self).read ≡ (notes_of l.initial.self).read;
}

abbrev pub decreases-rounds : goal.decreases-rounds
decreases-rounds g l = left_count (notes_of l.self)
