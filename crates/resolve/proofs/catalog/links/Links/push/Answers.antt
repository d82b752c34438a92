use Rattle.std.proofs.Common.{◌++◌, ◌∷◌, [], length, arith, ap, ◌∙◌}
use Rattle.resolve.specs.Links.{up_to}
use Rattle.resolve.proofs.LinkLemmas.{after_push, lead_back_push, length-after}
use Rattle.resolve.proofs.catalog.links.Links.push.Goals as goal

pub invariant_of-self-2 : goal.invariant_of-self-2
invariant_of-self-2 g c =
    let size = length-after [] c.self.inside.links.items in
    let same = ap length c.self.view_is in
    rw c.in_ok-push.ensures.items (lead_back_push 0 c.self.inside.links.items _ c.self.invariant (omega (arith, c.requires, size, same)))

pub returns-clause-added : goal.returns-clause-added
returns-clause-added g c = rw c.in_ok-push.ensures.items
    (after_push [] c.self.inside.links.items _ ∙ ap (λ lists. lists ++ (up_to lists c.args.list ++ c.args.item ∷ []) ∷ []) c.self.view_is)

pub returns-clause-list : goal.returns-clause-list
returns-clause-list g c =
    let size = length-after [] c.self.inside.links.items in
    let same = ap length c.self.view_is in
    omega (arith, c.in_ok-longer.ensures, c.len.ensures, size, same)
