use Rattle.std.proofs.Common.{ℕ, ◌<◌, ap, ◌∙◌, sym, length, get_or, set, arith}
use Rattle.std.specs.Prelude.{slice_get}
use Rattle.std.proofs.lemmas.Option.{slice_get-get_or}
use Rattle.std.proofs.lemmas.List.Elements.{All-push}
use Rattle.resolve.specs.Listings.{no_versions, with_excluded}
use Rattle.resolve.specs.Packages.{IsVersionOf}
use Rattle.resolve.specs.Solvables.{no_needs}
use Rattle.resolve.proofs.PackageLemmas.{ArePackagesOf-set, ArePackagesOf-tried}
use Rattle.resolve.proofs.catalog.tables.PackageTable.exclude.Goals as goal

pub invariant_of-self : goal.invariant_of-self
invariant_of-self c =
    let h = c.args.self.now.lawful c.in-Some.package _ (slice_get-get_or c.args.self.now.packages c.in-Some.package no_versions c.in-Some.ensures.within) in
    record {
      lawful = ArePackagesOf-tried _ _ _ _ c.exclude.result c.exclude.ensures.added c.exclude.ensures.unchanged c.args.self.now.lawful
          (ArePackagesOf-set _ _ _ _ c.args.self.now.lawful (record {
            listed = h.listed;
            rising = h.rising;
            favored = h.favored;
            locked = h.locked;
            excluded = All-push (λ e. IsVersionOf c.args.self.now.versions.keys c.in-Some.package e.0) _ _ h.excluded c.in-Some.ensures.version;
          }));
      few = c.args.self.now.few;
    }

pub invariant_of-self-2 : goal.invariant_of-self-2
invariant_of-self-2 c =
    let h = c.args.self.now.lawful c.in-Some.package _ (slice_get-get_or c.args.self.now.packages c.in-Some.package no_versions c.in-Some.ensures.within) in
    record {
      lawful = ArePackagesOf-tried _ _ _ _ c.exclude.result c.exclude.ensures.added c.exclude.ensures.unchanged c.args.self.now.lawful
          (ArePackagesOf-set _ _ _ _ c.args.self.now.lawful (record {
            listed = h.listed;
            rising = h.rising;
            favored = h.favored;
            locked = h.locked;
            excluded = All-push (λ e. IsVersionOf c.args.self.now.versions.keys c.in-Some.package e.0) _ _ h.excluded c.in-Some.ensures.version;
          }));
      few = c.args.self.now.few;
    }

pub returns-clause-excluded : goal.returns-clause-excluded
returns-clause-excluded c =
    let within : c.args.solvable.0 < length c.args.self.now.solvables = omega arith in
    record {
      before = get_or c.args.self.now.solvables c.args.solvable.0 no_needs;
      stood = slice_get-get_or c.args.self.now.solvables c.args.solvable.0 no_needs within;
      included = cc (c.if-is_excluded.false, c.is_excluded.ensures);
      marked = c.exclude-2.ensures;
      package_before = get_or c.args.self.now.packages c.in-Some.package no_versions;
      package_stood = ap (λ (n : ℕ). slice_get c.args.self.now.packages n) c.in-Some.ensures.version.named ∙
          slice_get-get_or c.args.self.now.packages c.in-Some.package no_versions c.in-Some.ensures.within;
      written = c.in_ok-exclude.ensures.added ∙ ap (λ (n : ℕ). set c.args.self.now.packages n
          (with_excluded (get_or c.args.self.now.packages c.in-Some.package no_versions) (c.args.solvable, c.args.reason)))
          (sym c.in-Some.ensures.version.named);
    }
