use Rattle.std.proofs.Common.{[]}
use Rattle.std.specs.Prelude.{map}
use Rattle.resolver_clause_store.specs.Universe.{Demands}
use Rattle.resolver_clause_store.specs.declared.SoftRequirement.TheVariants.{Solvable}
use Rattle.resolvo.specs.RoundStates.{AreAtRest, IsBetween, KeepsRoundLimits}
use Rattle.resolvo.proofs.rounds.Rounds.solvable_turns.Given as goal

abbrev pub invariant-loop-solvable : goal.invariant-loop-solvable
invariant-loop-solvable g l = record {
  rest : AreAtRest (g.D.Interner.universe l.provider) l.self;
  room : KeepsRoundLimits (g.D.Interner.universe l.provider) l.fn.self l.self;
  between : (root : Demands) → IsBetween (g.D.Interner.universe l.provider) root [] l.fn.self →
      IsBetween (g.D.Interner.universe l.provider) root (map Solvable l.yielded) l.self;
}
