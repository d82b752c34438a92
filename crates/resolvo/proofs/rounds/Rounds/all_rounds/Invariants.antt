use Rattle.std.proofs.Common.{length, ◌-◌}
use Rattle.resolvo.specs.RoundStates.{AreRounds, GoesOn, KeepsRoundLimits, notes_of}
use Rattle.resolvo.proofs.rounds.Rounds.all_rounds.Given as goal

abbrev pub invariant-rounds : goal.invariant-rounds
invariant-rounds g l = record {
  rounds : AreRounds (g.D.Interner.universe l.provider) l.self;
  keeps : GoesOn (g.D.Interner.universe l.provider) l.initial.self l.self;
  room : KeepsRoundLimits (g.D.Interner.universe l.provider) l.initial.self l.self;
}

abbrev pub decreases-rounds : goal.decreases-rounds
decreases-rounds g l = (notes_of l.self).variable_limit - length (notes_of l.self).read
