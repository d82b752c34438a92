use Rattle.resolve.specs.CatalogLaws.{catalog_ids_lawful, catalog_packages_lawful}
use Rattle.resolve.specs.Catalogs.{tables_in}
use Rattle.resolve.proofs.request.read_request.Goals as goal

pub read_lines-read-requires-clause-known : goal.read_lines-read-requires-clause-known
read_lines-read-requires-clause-known c = c.new-known.ensures (tables_in c.new-request.result.catalog)

pub returns-in-Ok : goal.returns-in-Ok
returns-in-Ok c = record {
  ids = catalog_ids_lawful c.read_lines-read.new.request.catalog;
  packages = catalog_packages_lawful c.read_lines-read.new.request.catalog;
  input = c.in-Ok.ensures.input;
  bad = tt;
}

pub returns-in-Err : goal.returns-in-Err
returns-in-Err c = record { ids = tt; packages = tt; input = tt; bad = c.in-Err.ensures.bad }
