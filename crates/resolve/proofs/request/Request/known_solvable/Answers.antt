use Rattle.std.proofs.Common.{sym}
use Rattle.resolve.specs.Catalogs.{tables_in}
use Rattle.resolve.specs.StatementsSaid.{named_of}
use Rattle.resolve.proofs.GrowthLemmas.{solvable_known}
use Rattle.resolve.proofs.request.Request.known_solvable.Goals as goal

pub returns-clause-known : goal.returns-clause-known
returns-clause-known c = record {
  specs = c.requires.known.specs;
  last = solvable_known (tables_in c.args.self.now.catalog) c.requires.tables (named_of c.in_ok-solvable_of.field-0) c.in_ok-word.word.now
      c.in_ok-solvable.solvable c.in_ok-solvable_of.ensures (sym (c.in_ok-solvable.ensures.exact c.requires.tables));
}

pub returns-clause-first : goal.returns-clause-first
returns-clause-first c = record {
  word = c.in_ok-word.word.now;
  it = named_of c.in_ok-solvable_of.field-0;
  cut = c.in_ok-word.ensures;
  names = c.in_ok-solvable_of.ensures;
  found = sym (c.in_ok-solvable.ensures.exact c.requires.tables);
}
