use Rattle.std.proofs.Common.{◌≡◌, arith, length, rules}
use Rattle.std.specs.Vec.{vec_len}
use Rattle.resolver_clause_store.proofs.StoredSlotLemmas.{view-put, within-stored, within-values}
use Rattle.resolver_clause_store.proofs.slots.Slots.put.Goals as goal

pub index_mut-requires : goal.index_mut-requires
index_mut-requires c =
    let size : vec_len c.self.inside.stored ≡ length c.self.inside.stored.items = search rules in
    omega (arith, size, within-stored _ _ _ c.args.index c.self.invariant c.self.view_is c.requires)

pub index_mut-requires-2 : goal.index_mut-requires-2
index_mut-requires-2 c =
    let size : vec_len c.self.inside.values ≡ length c.self.inside.values.items = search rules in
    omega (arith, size, within-values _ _ _ c.args.index c.self.invariant c.self.view_is c.requires)

pub returns : goal.returns
returns c = view-put _ _ _ c.args.index c.self.invariant c.self.view_is _ _ _ c.args.slot c.stored_value.ensures c.parts_of-cause.ensures
