use Rattle.std.proofs.Common.{◌≡◌, ◌≤◌, ◌<◌, ◌-◌, ◌++◌, [], suc, length, arith, ap, ◌∙◌}
use Rattle.std.specs.Prelude.{reverse}
use Rattle.resolve.specs.Links.{up_to}
use Rattle.resolve.proofs.LinkLemmas.{length-after, read_back, step_back}
use Rattle.resolve.proofs.catalog.links.Links.items.Goals as goal

pub index-link-requires : goal.index-link-requires
index-link-requires g c =
    let size = length-after [] c.self.inside.links.items in
    let same = ap length c.self.view_is in
    let long = c.self.inside.links.ok.0 in
    let some = c.items-test.true in
    omega (arith, c.items.invariant.within, size, same, long, some)

pub overflow_cast-rest-in-items : goal.overflow_cast-rest-in-items
overflow_cast-rest-in-items g c =
    let size = length-after [] c.self.inside.links.items in
    let same = ap length c.self.view_is in
    let within : c.items.rest - 1 < length c.self.inside.links.items = omega (arith, c.items.invariant.within, size, same, c.items-test.true) in
    let back : c.index-link.result.now.before ≤ c.items.rest - 1 = read_back _ _ _ c.index-link.ensures c.self.invariant within in
    omega (arith, back, c.items.auto.rest-fits)

pub items-smaller : goal.items-smaller
items-smaller g c =
    let size = length-after [] c.self.inside.links.items in
    let same = ap length c.self.view_is in
    let within : c.items.rest - 1 < length c.self.inside.links.items = omega (arith, c.items.invariant.within, size, same, c.items-test.true) in
    let back : c.index-link.result.now.before ≤ c.items.rest - 1 = read_back _ _ _ c.index-link.ensures c.self.invariant within in
    omega (arith, back, c.items-test.true)

pub items-preserved : goal.items-preserved
items-preserved g c =
    let size = length-after [] c.self.inside.links.items in
    let same = ap length c.self.view_is in
    let within : c.items.rest - 1 < length c.self.inside.links.items = omega (arith, c.items.invariant.within, size, same, c.items-test.true) in
    let back : c.index-link.result.now.before ≤ c.items.rest - 1 = read_back _ _ _ c.index-link.ensures c.self.invariant within in
    let place : c.items.rest ≡ suc (c.items.rest - 1) = omega (arith, c.items-test.true) in
    let found = c.items.invariant.found in
    record {
      within = omega (arith, back, c.items.invariant.within);
      found = step_back _ _ _ _ _ _ _ c.self.view_is c.index-link.ensures c.self.invariant within
          (found ∙ ap (λ rest. up_to c.args.self.now rest ++ reverse c.items.items.items) place) c.in_ok-push.ensures.items;
    }
