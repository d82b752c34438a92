use Rattle.std.proofs.Common.{arith}
use Rattle.resolver_clause_store.proofs.SlotLemmas.{cut-done, cuts-last}
use Rattle.resolver_clause_store.proofs.trail.Trail.cut.Goals as goal

pub places-preserved : goal.places-preserved
places-preserved c = cuts-last _ c.places.self _ _ c.places.invariant (omega arith) c.undo_last.ensures

pub returns : goal.returns
returns c = cut-done _ c.places.self _ c.places.invariant (omega arith)
