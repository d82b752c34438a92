use Rattle.std.proofs.Common.{◌<◌, [], length, refl, true}
use Rattle.resolve.specs.Listings.{no_versions}
use Rattle.resolve.specs.Packages.{IsVersionOf}
use Rattle.resolve.proofs.PackageLemmas.{ArePackagesOf-pushed, ArePackagesOf-tried, All-empty, AllPairs-empty}
use Rattle.resolve.proofs.catalog.tables.PackageTable.add_package.Goals as goal

pub invariant_of-self : goal.invariant_of-self
invariant_of-self c = record {
  lawful = ArePackagesOf-tried _ _ _ _ c.add.result c.add.ensures.added c.add.ensures.unchanged c.args.self.now.lawful
      (ArePackagesOf-pushed true _ c.args.self.now.packages _ no_versions refl c.args.self.now.lawful (record {
        listed = All-empty (IsVersionOf c.args.self.now.versions.keys (length c.args.self.now.packages)) [] refl;
        rising = AllPairs-empty (λ x y. x.0 < y.0) [] refl;
        favored = tt;
        locked = tt;
        excluded = All-empty (λ e. IsVersionOf c.args.self.now.versions.keys (length c.args.self.now.packages) e.0) [] refl;
      }));
  few = c.args.self.now.few;
}
