use Rattle.std.proofs.Common.{◌≡◌, arith, length, rules}
use Rattle.std.specs.Vec.{vec_len}
use Rattle.resolver_clause_store.proofs.StoredSlotLemmas.{view-cleared, within-values}
use Rattle.resolver_clause_store.proofs.slots.Slots.clear.Goals as goal

pub index_mut-requires : goal.index_mut-requires
index_mut-requires c =
    let size : vec_len c.self.inside.values ≡ length c.self.inside.values.items = search rules in
    omega (arith, size, within-values _ _ _ c.args.index c.self.invariant c.self.view_is c.requires)

pub returns : goal.returns
returns c = view-cleared _ _ _ c.args.index c.self.invariant c.self.view_is
