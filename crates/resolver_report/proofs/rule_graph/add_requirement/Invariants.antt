use Rattle.std.proofs.Common.{◌≡◌, ◌++◌, map, take}
use Rattle.resolver_report.specs.Graphs.{requirement_link}
use Rattle.resolver_report.specs.declared.graph.ConflictNode.TheVariants.{Solvable}
use Rattle.resolver_report.proofs.rule_graph.add_requirement.Given as goal

abbrev pub invariant-loop-candidate : goal.invariant-loop-candidate
invariant-loop-candidate g l = l.found.items ≡ l.initial.found.items ++
    map (λ c. requirement_link l.source l.fn.requirement (Solvable c)) (take l.candidate-index l.candidates)
