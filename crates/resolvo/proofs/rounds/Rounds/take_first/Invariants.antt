use Rattle.std.proofs.Common.{List, false, take}
use Rattle.resolver_clause_store.specs.Lists.{IsWithin}
use Rattle.resolver_clause_store.specs.Universe.{Demands}
use Rattle.resolvo.specs.RoundStates.{AreAtRest, HaveTurned, IsStanding, KeepsRoundLimits}
use Rattle.resolvo.proofs.rounds.Rounds.take_first.Given as goal

abbrev pub invariant-loop-candidate : goal.invariant-loop-candidate
invariant-loop-candidate g l = record {
  rest : AreAtRest (g.D.Interner.universe l.provider) l.self;
  room : KeepsRoundLimits (g.D.Interner.universe l.provider) l.fn.self l.self;
  turned : (root : Demands) (taken refused seeds : List g.row.S.Denot) (packages : List g.row.N.Denot) → IsWithin l.candidates seeds →
      IsStanding (g.D.Interner.universe l.provider) root taken refused seeds packages l.fn.self →
      HaveTurned (g.D.Interner.universe l.provider) root taken seeds packages (take l.candidate-index l.candidates) l.fn.self l.self false;
}
