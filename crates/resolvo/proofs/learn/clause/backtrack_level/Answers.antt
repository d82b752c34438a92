use Rattle.std.proofs.Common.{rules, ◌≤◌, ◌≡◌, ◌⊎◌}
use Rattle.resolver_clause_store.specs.Literals.{Literal}
use Rattle.resolver_clause_store.proofs.SetLemmas.{All-done}
use Rattle.resolvo.specs.Resolvents.{level_in}
use Rattle.resolvo.proofs.LevelLemmas.{backtrack_level-next, backtrack_level-same}
use Rattle.resolvo.proofs.learn.clause.backtrack_level.Goals as goal
use Rattle.resolvo.proofs.learn.clause.backtrack_level.Goals.{then-ne, else-ne}

pub literals-preserved : goal.literals-preserved
literals-preserved c = elim c.if-ne.branch [
  | then-ne w ↦ rw w.level-is (backtrack_level-next _ _ _ _ c.literal-item.result _ w.level_at.result _ c.literals-test.true (search rules)
      (search rules) c.literals.invariant (search rules) (search rules) (search rules))
  | else-ne w ↦ rw w.level-is (backtrack_level-same _ _ _ _ c.literal-item.result _ c.literals-test.true (search rules) c.literals.invariant)
]

pub returns-clause-top : goal.returns-clause-top
returns-clause-top c = All-done (λ (literal : Literal).
    (literal.variable ≡ c.args.asserted) ⊎ (level_in c.args.trail.now literal.variable ≤ c.literals.level)) _ c.literals.literal-index
    (search rules) c.literals.invariant.top
