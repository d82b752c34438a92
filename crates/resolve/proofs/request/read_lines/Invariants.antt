use Rattle.resolve.specs.Catalogs.{tables_in}
use Rattle.resolve.specs.InputsView.{input_in}
use Rattle.resolve.specs.KnownWords.{AreKnown}
use Rattle.resolve.specs.Tables.{AreTables}
use Rattle.resolve.proofs.ReadLemmas.{AreRead, bytes_of}
use Rattle.resolve.proofs.request.read_lines.Given as goal

abbrev pub invariant-loop-line : goal.invariant-loop-line
invariant-loop-line l = record {
  read : AreRead (bytes_of l.yielded) (input_in l.request);
  tables : AreTables (tables_in l.request.catalog);
  known : AreKnown l.known (tables_in l.request.catalog);
}
