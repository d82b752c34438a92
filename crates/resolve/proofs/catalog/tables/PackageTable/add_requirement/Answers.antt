use Rattle.std.proofs.Common.{get_or}
use Rattle.std.proofs.lemmas.Option.{slice_get-get_or}
use Rattle.resolve.specs.Solvables.{no_needs}
use Rattle.resolve.proofs.catalog.tables.PackageTable.add_requirement.Goals as goal

pub returns-clause-added : goal.returns-clause-added
returns-clause-added c = λ within. record {
  before = get_or c.args.self.now.solvables c.args.solvable.0 no_needs;
  stood = slice_get-get_or c.args.self.now.solvables c.args.solvable.0 no_needs within;
  written = c.in_ok-require.ensures.added;
}
