use Rattle.std.proofs.Common.{ℕ, ap, ◌∙◌, sym, get_or, set, Some}
use Rattle.std.specs.Prelude.{slice_get}
use Rattle.std.proofs.lemmas.Option.{slice_get-get_or}
use Rattle.resolve.specs.Listings.{no_versions}
use Rattle.resolve.proofs.PackageLemmas.{ArePackagesOf-set}
use Rattle.resolve.proofs.catalog.tables.PackageTable.lock.Goals as goal

pub invariant_of-self : goal.invariant_of-self
invariant_of-self c =
    let read = slice_get-get_or c.args.self.now.packages c.in-Some.place no_versions c.in-Some.ensures.within in
    let h = c.args.self.now.lawful c.in-Some.place _ read in
    record {
      lawful = rw c.lock.ensures (ArePackagesOf-set _ _ _ _ c.args.self.now.lawful
          (record { listed = h.listed; rising = h.rising; favored = h.favored; locked = c.in-Some.ensures.version; excluded = h.excluded }));
      few = c.args.self.now.few;
    }

pub returns-clause-locked : goal.returns-clause-locked
returns-clause-locked c = record {
  package_before = get_or c.args.self.now.packages c.in-Some.place no_versions;
  stood = ap (λ (n : ℕ). slice_get c.args.self.now.packages n) c.in-Some.ensures.version.named ∙
      slice_get-get_or c.args.self.now.packages c.in-Some.place no_versions c.in-Some.ensures.within;
  free = cc (c.if-is_some.false, c.is_some.ensures, c.locked.ensures);
  written = c.lock.ensures ∙ ap (λ (n : ℕ). set c.args.self.now.packages n (record (get_or c.args.self.now.packages c.in-Some.place no_versions) {
    locked = Some c.args.solvable;
  })) (sym c.in-Some.ensures.version.named);
}
