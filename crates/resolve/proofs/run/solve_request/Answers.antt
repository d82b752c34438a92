use Rattle.std.proofs.Common.{◌≡◌, ◌∙◌, ap, None}
use Rattle.resolvo.specs.Problems.{list_in, root_demands, soft_in}
use Rattle.resolvo.specs.Solvers.{exempt_in, provider_in}
use Rattle.resolver_clause_store.specs.Universe.{Demands}
use Rattle.resolve.specs.Catalogs.{tables_in}
use Rattle.resolve.specs.InputsView.{input_in}
use Rattle.resolve.specs.Universes.{input_demands}
use Rattle.resolve.proofs.OutcomeLemmas.{solved_by}
use Rattle.resolve.proofs.run.solve_request.Goals as goal

pub returns-clause-outcome : goal.returns-clause-outcome
returns-clause-outcome c =
    let request = c.args.request in
    let demands : root_demands c.soft_list-problem.result ≡ input_demands (input_in request) = c.soft_list-problem.ensures.demands ∙
    c.constraints.ensures.demands ∙ ap (λ (d : Demands). record d { constraints = request.constraints.items }) c.requirements.ensures.demands in
    let provider : provider_in c.new-solver.result ≡ request.catalog = c.new-solver.ensures.provider in
    c.outcome_of-outcome.ensures.outcome (input_in request) (ap tables_in (c.solve-answered.ensures.provider ∙ provider))
    (solved_by (λ before item after. (item ≡ None) × (before ≡ after)) (soft_in c.soft_list-problem.result) request (provider_in c.new-solver.result) _ (list_in c.soft_list-problem.result) _ _ (exempt_in c.solve-answered.new.self) _ provider demands
    (c.soft_list-problem.ensures.soft ∙ c.constraints.ensures.soft ∙ c.requirements.ensures.soft ∙ c.new.ensures.soft) c.soft_list-problem.ensures.list
    c.solve-answered.ensures.answer c.solve-answered.ensures.refusal)
