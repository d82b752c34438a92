use Rattle.std.proofs.Common.{◌≡◌, arith, length, rules}
use Rattle.std.specs.Vec.{vec_len}
use Rattle.resolver_clause_store.proofs.StoredSlotLemmas.{slot-read, within-stored}
use Rattle.resolver_clause_store.proofs.slots.Slots.at.Goals as goal

pub index-requires : goal.index-requires
index-requires c =
    let size : vec_len c.self.inside.stored ≡ length c.self.inside.stored.items = search rules in
    omega (arith, size, within-stored _ _ _ c.args.index c.self.invariant c.self.view_is c.requires)

pub returns : goal.returns
returns c = slot-read _ _ _ c.args.index c.self.invariant c.self.view_is c.requires _ _ _ c.index.ensures c.value_at.ensures c.slot_with.ensures
