use Rattle.std.proofs.Common.{arith, ◌<◌}
use Rattle.std.proofs.lemmas.List.Elements.{All-contains}
use Rattle.resolver_clause_store.specs.TrailView.{variable_count}
use Rattle.resolver_clause_store.specs.Literals.{Literal}
use Rattle.resolvo.proofs.ClauseSearchLemmas.{false-below}
use Rattle.resolvo.proofs.TurnLemmas.{refused}
use Rattle.resolvo.proofs.clause_search.ClauseSearch.add_learnt.Goals as goal

pub asserted_level-requires : goal.asserted_level-requires
asserted_level-requires c =
    let learnt = c.requires.learnt in
    All-contains (λ (l : Literal). l.variable < variable_count c.args.self.now.trail) c.args.learnt.literals.items c.args.learnt.literal
    (false-below c.args.self.now.trail c.args.learnt.literals.items learnt.falsified) learnt.asserting.contains

pub returns-then-asserted_level-self-clause-outcome : goal.returns-then-asserted_level-self-clause-outcome
returns-then-asserted_level-self-clause-outcome c =
    λ given numbers loaded. refused c.args.self.now given numbers c.args.learnt c.requires.consistent loaded c.requires.learnt
    (omega (arith, c.asserted_level.ensures, c.if-asserted_level-self.true))
