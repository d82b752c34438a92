use Rattle.resolver_clause_store.specs.TrailView.{length_of}
use Rattle.resolver_clause_store.proofs.SlotLemmas.{UndoesAbove}
use Rattle.resolver_clause_store.proofs.trail.Trail.undo_until.Given as goal

abbrev pub invariant-places : goal.invariant-places
invariant-places l = UndoesAbove l.initial.self l.self l.level

abbrev pub decreases-places : goal.decreases-places
decreases-places l = length_of l.self
