use Rattle.std.proofs.Common.{length}
use Rattle.resolver_report.specs.Places.{HasPlacesFrom}
use Rattle.resolver_report.proofs.rule_graph.places_of.Given as goal

abbrev pub invariant-loop-rest : goal.invariant-loop-rest
invariant-loop-rest g l = HasPlacesFrom g.S.PartialEq.eq l.initial.rest l.rest l.places

abbrev pub decreases-loop-rest : goal.decreases-loop-rest
decreases-loop-rest g l = length l.rest
