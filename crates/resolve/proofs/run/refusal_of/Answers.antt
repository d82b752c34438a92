use Rattle.std.proofs.Common.{◌∙◌, ap, subst}
use Rattle.resolvo.specs.Conflicts.{rules_in}
use Rattle.resolve.specs.Outcomes.{ExplainsConflict}
use Rattle.resolve.specs.Runs.{told}
use Rattle.resolve.proofs.run.refusal_of.Goals as goal

pub returns-in-Ok-clause-outcome : goal.returns-in-Ok-clause-outcome
returns-in-Ok-clause-outcome c = λ input same explained. record {
  rules = rules_in c.in-Unsolvable.conflict;
  explain = subst (ExplainsConflict input) c.in-Unsolvable.is explained;
  is = c.in-Ok.ensures.text ∙ ap (λ t. told t (rules_in c.in-Unsolvable.conflict)) same;
}
