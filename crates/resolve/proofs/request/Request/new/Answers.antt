use Rattle.std.proofs.Common.{sym, subst}
use Rattle.resolve.specs.Catalogs.{Tables}
use Rattle.resolve.specs.Tables.{AreTables}
use Rattle.resolve.proofs.FitLemmas.{no_tables_fit}
use Rattle.resolve.proofs.request.Request.new.Goals as goal

pub returns-clause-tables : goal.returns-clause-tables
returns-clause-tables c = let P : Tables → Type 0 = λ t. AreTables t in subst P (sym c.new.ensures) no_tables_fit
