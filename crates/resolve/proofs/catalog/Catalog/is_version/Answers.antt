use Rattle.std.proofs.Common.{rules, ◌≡◌, Some, slice_get}
use Rattle.resolve.specs.Catalogs.{tables_in, versions_in}
use Rattle.resolve.specs.Said.{Named}
use Rattle.resolve.proofs.InputLemmas.{found_exact}
use Rattle.resolve.proofs.catalog.Catalog.is_version.Goals as goal

pub returns-then-version-number : goal.returns-then-version-number
returns-then-version-number c = λ tables is.
    let it : Named = record { name = c.args.text.now; version = c.args.number } in
    let numbered : slice_get (versions_in c.args.self.now) c.args.solvable.0 ≡ Some (record { name = c.in-Some.version.now.name; number = c.args.number }) =
    search rules in
    found_exact (tables_in c.args.self.now) tables it c.in-Some.version.now.name c.args.solvable (c.has_name.ensures is) numbered
