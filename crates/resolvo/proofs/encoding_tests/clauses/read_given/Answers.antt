use Rattle.std.proofs.Common.{All, Contains, List, subst}
use Rattle.resolver_clause_store.specs.declared.Origin.{Origin}
use Rattle.resolver_clause_store.specs.declared.Origin.TheVariants.{Solvable}
use Rattle.resolver_encoding.specs.Notes.{notes_in}
use Rattle.resolvo.proofs.ReadInTurnLemmas.{reading_again}
use Rattle.resolvo.proofs.encoding_tests.clauses.read_given.Goals as goal

pub read_chosen-requires-clause-reading : goal.read_chosen-requires-clause-reading
read_chosen-requires-clause-reading g c = c.requires.reading

pub read_chosen-requires-clause-known : goal.read_chosen-requires-clause-known
read_chosen-requires-clause-known g c =
    let Known : List (Origin g.row.N.Denot g.row.S.Denot) → Type 0 = λ origins. All (λ s. Contains origins (Solvable s)) c.in_ok-chosen.chosen.keys in
    subst Known c.variables.ensures c.in_ok-chosen.ensures.known

pub returns-clause-reading : goal.returns-clause-reading
returns-clause-reading g c = reading_again (g.D.Interner.universe c.args.provider.now) _ (notes_in c.args.encoding.now)
    (notes_in c.read_chosen.new.self) c.requires.reading c.in_ok-progress.ensures.read
