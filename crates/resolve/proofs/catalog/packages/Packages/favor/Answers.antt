use Rattle.std.proofs.Common.{List, ap, refl, ◌∙◌, Some}
use Rattle.std.specs.Prelude.{slice_index_or, slice_set}
use Rattle.resolve.specs.Listings.{ListedPackage, no_versions}
use Rattle.resolve.proofs.ListingLemmas.{inside, marked}
use Rattle.resolve.proofs.catalog.packages.Packages.favor.Goals as goal

pub returns : goal.returns
returns c =
    let within = inside _ _ _ _ _ c.self.view_is c.requires in
    let mark : ListedPackage → ListedPackage = λ s. record s { favored = Some c.args.solvable } in
    marked _ _ c.self.inside.listings.items c.args.place c.index_mut.result.now _ mark c.index_mut.ensures.value within refl ∙
    ap (λ (all : List ListedPackage). slice_set all c.args.place (mark (slice_index_or all c.args.place no_versions))) c.self.view_is
