use Rattle.std.proofs.Common.{◌≡◌, ◌<◌, ℕ, ap, get_or, set, length, refl, arith, sym, true, ◌∙◌, ◌++◌, ◌∷◌, []}
use Rattle.std.proofs.lemmas.Option.{slice_get-get_or}
use Rattle.resolve.specs.Listings.{ListedPackage, no_versions, with_candidate}
use Rattle.resolve.proofs.VersionTableLemmas.{version_fresh, version_found}
use Rattle.resolve.proofs.PackageLemmas.{ArePackagesOf-set, ArePackagesOf-kept, ArePackagesOf-tried, IsPackageOf-declared}
use Rattle.resolve.proofs.PackageLemmas.{IsKept-inserted, few_more, new_last}
use Rattle.resolve.proofs.catalog.tables.PackageTable.add_version.Goals as goal
use Rattle.resolve.proofs.catalog.tables.PackageTable.add_version.Goals.{then-package-len-via-then-package-len}
use Rattle.resolve.proofs.catalog.tables.PackageTable.add_version.Goals.{then-package-len-via-else-package-len+then-contains}

pub invariant_of-self-in-Break-branch-3 : goal.invariant_of-self-in-Break-branch-3
invariant_of-self-in-Break-branch-3 c = record {
  lawful = rw c.in_err-insert.ensures.err c.args.self.now.lawful;
  few = rw c.in_err-insert.ensures.err c.args.self.now.few;
}

pub invariant_of-self-2 : goal.invariant_of-self-2
invariant_of-self-2 c =
    let added : c.insert.new.self.keys ≡ c.args.self.now.versions.keys ++ record { name = c.args.name; number = c.args.number } ∷ [] =
    new_last _ _ _ _ (sym c.contains.ensures ∙ c.if-contains.false) c.in_ok-insert.ensures.keys in
    let at : c.in_ok-id_of.field-0 ≡ length c.args.self.now.versions.keys = omega (arith, c.in_ok-id_of.ensures.id, c.len-2.ensures.len) in
    let within : c.args.name.0 < length c.args.self.now.packages = omega arith in
    let h = c.args.self.now.lawful c.args.name.0 _ (slice_get-get_or c.args.self.now.packages c.args.name.0 no_versions within) in
    let kept = ArePackagesOf-kept _ _ (IsKept-inserted _ _ _ _ c.in_ok-insert.ensures.keys) _ c.args.self.now.lawful in
    record {
      lawful = ArePackagesOf-tried _ _ _ _ c.list.result c.list.ensures.added c.list.ensures.unchanged kept
          (ArePackagesOf-set _ _ _ _ kept
          (IsPackageOf-declared _ _ _ (record { 0 = c.in_ok-id_of.field-0 }) true _ _ added at refl refl refl refl h));
      few = few_more _ _ _ _ added at c.in_ok-id_of.ensures.small;
    }

pub returns-clause-declared : goal.returns-clause-declared
returns-clause-declared c =
    let added : c.insert.new.self.keys ≡ c.args.self.now.versions.keys ++ record { name = c.args.name; number = c.args.number } ∷ [] =
    new_last _ _ _ _ (sym c.contains.ensures ∙ c.if-contains.false) c.in_ok-insert.ensures.keys in
    let at : c.in_ok-id_of.field-0 ≡ length c.args.self.now.versions.keys = omega (arith, c.in_ok-id_of.ensures.id, c.len-2.ensures.len) in
    let within : c.args.name.0 < length c.args.self.now.packages = omega arith in
    let row : ListedPackage = get_or c.args.self.now.packages c.args.name.0 no_versions in
    record {
      fresh = version_fresh _ _ _ c.contains.ensures c.if-contains.false;
      within = within;
      last = added;
      added = c.in_ok-add.ensures.added;
      listed = c.in_ok-list.ensures.added ∙ ap (λ (k : ℕ). set c.args.self.now.packages c.args.name.0 (with_candidate row (record { 0 = k }))) at;
    }

pub returns-then-package-len-clause-declared : goal.returns-then-package-len-clause-declared
returns-then-package-len-clause-declared c = record {
  kept = refl;
  kept_solvables = refl;
  kept_packages = refl;
  taken = λ within. elim c.then-package-len.branch [
    | then-package-len-via-then-package-len w ↦ absurd
        (omega (
          arith,
          within,
          w.if-package-len,
          c.len.ensures,
        ))
    | then-package-len-via-else-package-len+then-contains w ↦ version_found _ _ _ w.contains.ensures w.if-contains.true
  ];
}
