use Rattle.std.proofs.Common.{◌≡◌, arith, length, rules}
use Rattle.std.specs.Vec.{vec_len}
use Rattle.resolver_clause_store.proofs.GrowLemmas.{length-grown, slots-grown}
use Rattle.resolver_clause_store.proofs.StoredSlotLemmas.{length-view, view-grown}
use Rattle.resolver_clause_store.proofs.slots.Slots.grow.Goals as goal

pub returns-in-Ok-clause-same : goal.returns-in-Ok-clause-same
returns-in-Ok-clause-same c =
    let values : vec_len c.self.inside.values ≡ length c.self.inside.values.items = search rules in
    let stored : vec_len c.self.inside.stored ≡ length c.self.inside.stored.items = search rules in
    let size = length-view _ _ _ 0 c.self.invariant c.self.view_is in
    slots-grown _ _ _ (view-grown _ _ _ 0 c.self.invariant c.self.view_is _ _ c.args.count _ (omega (arith, size, c.requires))
    (rw values at c.in_ok-resize.ensures.items) (rw stored at c.in-Ok.ensures.items))

pub returns-in-Ok-clause-size : goal.returns-in-Ok-clause-size
returns-in-Ok-clause-size c =
    let values : vec_len c.self.inside.values ≡ length c.self.inside.values.items = search rules in
    let stored : vec_len c.self.inside.stored ≡ length c.self.inside.stored.items = search rules in
    let size = length-view _ _ _ 0 c.self.invariant c.self.view_is in
    length-grown _ _ c.args.count _ (omega (arith, size)) c.requires (view-grown _ _ _ 0 c.self.invariant c.self.view_is _ _ c.args.count _ (omega (arith, size, c.requires))
    (rw values at c.in_ok-resize.ensures.items) (rw stored at c.in-Ok.ensures.items))
