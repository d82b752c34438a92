use Rattle.std.proofs.Common.{refl, rules}
use Rattle.resolve.specs.Catalogs.{tables_in}
use Rattle.resolve.specs.Evaluations.{evaluated}
use Rattle.resolve.proofs.EvaluationLemmas.{condition_evaluates, evaluates_next}
use Rattle.resolve.proofs.request.Request.condition.Goals as goal

pub loop-step-init : goal.loop-step-init
loop-step-init c = record {
  only = refl;
  rest = λ g same. condition_evaluates g (tables_in c.args.self.now.catalog) c.new-aside.result.items _ same c.new-aside.ensures.items;
}

pub loop-step-preserved : goal.loop-step-preserved
loop-step-preserved c = record {
  only = search rules;
  rest = λ g same. evaluates_next c.args.steps.now c.loop-step.step-index _ (evaluated (tables_in c.loop-step.self.catalog) c.loop-step.aside.items) _ _
      c.condition_step.new.aside.items _ c.in_ok-condition.field-0 c.in-Some.condition c.loop-step-test.true (c.loop-step.invariant.rest g same)
      c.in_ok-condition.ensures.evaluates c.in-Some.is c.in_ok-push.ensures.items;
}
