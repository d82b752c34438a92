use Rattle.resolver_clause_store.specs.TrailView.{length_of}
use Rattle.resolver_clause_store.proofs.SlotLemmas.{CutsBehind}
use Rattle.resolver_clause_store.proofs.trail.Trail.cut.Given as goal

abbrev pub invariant-places : goal.invariant-places
invariant-places l = CutsBehind l.initial.self l.self l.count

abbrev pub decreases-places : goal.decreases-places
decreases-places l = length_of l.self
