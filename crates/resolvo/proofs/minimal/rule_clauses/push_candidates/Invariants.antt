use Rattle.std.proofs.Common.{◌≡◌, ◌++◌, take}
use Rattle.resolvo.specs.RuleClauses.{candidate_atoms}
use Rattle.resolvo.proofs.minimal.rule_clauses.push_candidates.Given as goal

abbrev pub invariant-loop-candidate : goal.invariant-loop-candidate
invariant-loop-candidate g l = l.atoms.items ≡ l.fn.atoms.items ++ candidate_atoms (take l.candidate-index l.candidates)
