use Rattle.resolver_report.specs.EdgePlaces.{HasPlacesBefore}
use Rattle.resolver_report.proofs.graph.edge_places.Given as goal

abbrev pub invariant-loop-place : goal.invariant-loop-place
invariant-loop-place g l = HasPlacesBefore l.count l.edges l.place l.from.items l.to.items
