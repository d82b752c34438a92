use Rattle.std.proofs.Common.{List, ap, ◌∙◌}
use Rattle.std.specs.Prelude.{slice_index_or, slice_set}
use Rattle.resolve.specs.Listings.{ListedPackage, no_versions, with_excluded}
use Rattle.resolve.proofs.ListingLemmas.{inside, barred}
use Rattle.resolve.proofs.catalog.packages.Packages.exclude.Goals as goal

pub returns-clause-added : goal.returns-clause-added
returns-clause-added c =
    let within = inside _ _ _ _ _ c.self.view_is c.requires in
    rw c.in_ok-listing.ensures.added
    (barred _ _ c.self.inside.listings.items c.args.place c.index-listing.result.now _ (c.args.solvable, c.args.reason)
    c.self.invariant c.index-listing.ensures within
    c.in_ok-listing.ensures.list ∙
    ap (λ (all : List ListedPackage). slice_set all c.args.place (with_excluded (slice_index_or all c.args.place no_versions)
    (c.args.solvable, c.args.reason))) c.self.view_is)
