use Rattle.std.proofs.Common.{◌≡◌, arith, length, rules}
use Rattle.std.specs.Vec.{vec_len}
use Rattle.resolver_clause_store.proofs.StoredSlotLemmas.{length-view}
use Rattle.resolver_clause_store.proofs.slots.Slots.len.Goals as goal

pub returns : goal.returns
returns c =
    let size : vec_len c.self.inside.stored ≡ length c.self.inside.stored.items = search rules in
    omega (arith, size, c.len.ensures, length-view _ _ _ 0 c.self.invariant c.self.view_is)
