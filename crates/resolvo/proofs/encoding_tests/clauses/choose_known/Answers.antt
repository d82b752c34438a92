use Rattle.std.proofs.Common.{Contains}
use Rattle.std.proofs.lemmas.List.Elements.{All-contains}
use Rattle.resolver_clause_store.specs.Variables.{origins_in}
use Rattle.resolver_clause_store.specs.declared.Origin.TheVariants.{Solvable}
use Rattle.resolvo.proofs.ReadInTurnLemmas.{All-put}
use Rattle.resolvo.proofs.encoding_tests.clauses.choose_known.Goals as goal

pub returns-clause-known : goal.returns-clause-known
returns-clause-known g c =
    let Known : g.row.S.Denot → Type 0 = λ s. Contains (origins_in c.args.variables.now) (Solvable s) in
    All-put Known c.args.chosen.now.keys c.append.new.set.keys c.args.solvable c.in_ok-append.ensures.keys c.requires.known
    (All-contains Known c.args.known.now c.args.solvable c.requires.all_known c.if-not-has.ensures)
