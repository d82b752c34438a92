use Rattle.std.proofs.Common.{rules}
use Rattle.resolve.specs.InputsView.{input_in}
use Rattle.resolve.specs.Catalogs.{tables_in}
use Rattle.resolve.proofs.PairLemmas.{pair_constrains}
use Rattle.resolve.proofs.request.Request.read_constrains.Goals as goal

pub returns-clause-read : goal.returns-clause-read
returns-clause-read c =
    pair_constrains c.args.words.now c.in-Some.word.now (input_in c.args.self.now) _ c.in-Some.solvable c.in-Some-2.version_set c.in_ok-version_set.field-0
    (tables_in c.known_version_set.new.self.catalog) _ c.requires.tables c.in-Some.ensures.first (search rules) c.in-Some-2.is (search rules)
    c.in_ok-add_constraint.ensures.added
