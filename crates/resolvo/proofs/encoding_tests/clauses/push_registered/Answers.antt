use Rattle.std.proofs.Common.{◌∙◌, Contains, Some, ap, sym}
use Rattle.resolver_clause_store.specs.Variables.{origins_in}
use Rattle.resolver_clause_store.specs.declared.Origin.TheVariants.{Solvable}
use Rattle.resolvo.proofs.ReadInTurnLemmas.{All-put}
use Rattle.resolvo.proofs.encoding_tests.clauses.push_registered.Goals as goal
use Rattle.resolver_clause_store.proofs.ListLemmas.{Contains-at}

pub returns-in_ok-push-in-Some-Solvable-clause-known : goal.returns-in_ok-push-in-Some-Solvable-clause-known
returns-in_ok-push-in-Some-Solvable-clause-known g c =
    let Known : g.row.S.Denot → Type 0 = λ s. Contains (origins_in c.args.variables.now) (Solvable s) in
    let at = Contains-at (origins_in c.args.variables.now) _ (Solvable c.in-Some-Solvable.solvable)
    (sym c.origin.ensures ∙ c.in-Some-Solvable.is ∙ ap Some c.in-Some-Solvable.field-0-is) in
    All-put Known c.args.list.now.items c.push.new.self.items c.in-Some-Solvable.solvable c.in_ok-push-in-Some-Solvable.ensures.items c.requires.known at
