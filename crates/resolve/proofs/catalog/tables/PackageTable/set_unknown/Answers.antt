use Rattle.std.proofs.Common.{◌<◌, get_or, length, arith}
use Rattle.std.proofs.lemmas.Option.{slice_get-get_or}
use Rattle.resolve.specs.Solvables.{no_needs}
use Rattle.resolve.proofs.catalog.tables.PackageTable.set_unknown.Goals as goal

pub returns-clause-unknown : goal.returns-clause-unknown
returns-clause-unknown c =
    let within : c.args.solvable.0 < length c.args.self.now.solvables = omega arith in
    record {
      before = get_or c.args.self.now.solvables c.args.solvable.0 no_needs;
      stood = slice_get-get_or c.args.self.now.solvables c.args.solvable.0 no_needs within;
      free = cc (c.if-is_some.false, c.is_some.ensures, c.unknown.ensures);
      written = c.set_unknown.ensures;
    }
