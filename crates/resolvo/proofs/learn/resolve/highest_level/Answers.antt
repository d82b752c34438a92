use Rattle.std.proofs.Common.{rules, ◌≤◌}
use Rattle.resolver_clause_store.specs.Literals.{Literal}
use Rattle.resolver_clause_store.proofs.SetLemmas.{All-done}
use Rattle.resolvo.specs.Resolvents.{level_in}
use Rattle.resolvo.proofs.LevelLemmas.{highest-next}
use Rattle.resolvo.proofs.learn.resolve.highest_level.Goals as goal

pub literals-preserved : goal.literals-preserved
literals-preserved c = highest-next _ _ _ c.literal-item.result _ c.level_at.result _ c.literals-test.true (search rules) c.literals.invariant (search rules)
    (search rules) (search rules)

pub returns-clause-top : goal.returns-clause-top
returns-clause-top c = All-done (λ (literal : Literal). level_in c.args.trail.now literal.variable ≤ c.literals.level) _ c.literals.literal-index
    (search rules) c.literals.invariant.top
