use Rattle.std.proofs.Common.{◌≡◌, ◌≤◌, ◌++◌, length}
use Rattle.std.specs.Prelude.{reverse}
use Rattle.resolve.specs.Links.{up_to}
use Rattle.resolve.proofs.catalog.links.Links.items.Given as goal

abbrev pub invariant-items : goal.invariant-items
invariant-items g l = record {
  within : l.rest ≤ length l.self;
  found : up_to l.self l.list ≡ up_to l.self l.rest ++ reverse l.items.items;
}

abbrev pub decreases-items : goal.decreases-items
decreases-items g l = l.rest
