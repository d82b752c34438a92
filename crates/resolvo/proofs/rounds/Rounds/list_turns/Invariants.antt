use Rattle.std.proofs.Common.{take}
use Rattle.resolvo.specs.RoundStates.{AreAtRest, KeepsRoundLimits, TakesTurns}
use Rattle.resolvo.proofs.rounds.Rounds.list_turns.Given as goal

abbrev pub invariant-loop-requirement : goal.invariant-loop-requirement
invariant-loop-requirement g l = record {
  rest : AreAtRest (g.D.Interner.universe l.provider) l.self;
  room : KeepsRoundLimits (g.D.Interner.universe l.provider) l.fn.self l.self;
  between : TakesTurns (g.D.Interner.universe l.provider) (take l.requirement-index l.list) l.fn.self l.self;
}
