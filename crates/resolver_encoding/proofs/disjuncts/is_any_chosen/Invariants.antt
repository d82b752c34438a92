use Rattle.std.proofs.Common.{All, Contains, take}
use Rattle.resolver_encoding.proofs.disjuncts.is_any_chosen.Given as goal

abbrev pub invariant-loop-candidate : goal.invariant-loop-candidate
invariant-loop-candidate g l = All (λ s. Contains l.chosen.keys s → ⊥) (take l.candidate-index l.candidates)
