use Rattle.std.proofs.Common.{◌≡◌, [], drop}
use Rattle.std.specs.Prelude.{map}
use Rattle.resolve.specs.Catalogs.{tables_in}
use Rattle.resolve.specs.Evaluations.{evaluated, pushed}
use Rattle.resolve.specs.Guards.{postfix, step_seen}
use Rattle.resolve.specs.Meaning.{with_guard}
use Rattle.resolve.specs.Said.{Guard}
use Rattle.resolve.proofs.EvaluationLemmas.{EvaluatesAll}
use Rattle.resolve.proofs.request.Request.condition.Given as goal

abbrev pub invariant-loop-step : goal.invariant-loop-step
invariant-loop-step l = record {
  only : l.self ≡ record l.fn.self { catalog = l.self.catalog };
  rest : (g : Guard) → map step_seen l.fn.steps ≡ postfix g → EvaluatesAll (map step_seen (drop l.step-index l.steps))
      (evaluated (tables_in l.self.catalog) l.aside.items) (pushed (with_guard (tables_in l.fn.self.catalog) g) []);
}
