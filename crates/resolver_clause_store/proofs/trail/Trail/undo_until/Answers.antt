use Rattle.std.proofs.Common.{arith}
use Rattle.resolver_clause_store.proofs.SlotLemmas.{undoes-last, undone}
use Rattle.resolver_clause_store.proofs.trail.Trail.undo_until.Goals as goal

pub places-preserved : goal.places-preserved
places-preserved c = undoes-last _ c.places.self _ _ c.places.invariant (omega (arith, c.level.ensures.value)) c.undo_last.ensures

pub returns : goal.returns
returns c = undone _ c.places.self _ _ c.places.invariant c.level.ensures.top (omega arith)
