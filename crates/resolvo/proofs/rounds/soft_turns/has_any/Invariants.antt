use Rattle.std.proofs.Common.{All, Contains, take}
use Rattle.resolvo.proofs.rounds.soft_turns.has_any.Given as goal

abbrev pub invariant-loop-member : goal.invariant-loop-member
invariant-loop-member g l = All (λ s. Contains l.set.keys s → ⊥) (take l.member-index l.list)
