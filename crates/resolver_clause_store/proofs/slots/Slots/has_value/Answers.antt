use Rattle.std.proofs.Common.{◌≡◌, arith, length, refl, rules}
use Rattle.std.specs.Vec.{vec_len}
use Rattle.resolver_clause_store.proofs.StoredSlotLemmas.{value-read, within-values}
use Rattle.resolver_clause_store.proofs.slots.Slots.has_value.Goals as goal

pub index-requires : goal.index-requires
index-requires c =
    let size : vec_len c.self.inside.values ≡ length c.self.inside.values.items = search rules in
    omega (arith, size, within-values _ _ _ c.args.index c.self.invariant c.self.view_is c.requires)

pub returns : goal.returns
returns c =
    rw (value-read _ _ _ c.args.index c.self.invariant c.self.view_is c.requires _ _ c.index.ensures refl) at c.is_stored.ensures
