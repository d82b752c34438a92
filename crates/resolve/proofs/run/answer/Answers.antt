use Rattle.resolve.specs.InputsView.{input_in}
use Rattle.resolve.proofs.OutcomeLemmas.{outcome_told}
use Rattle.resolve.proofs.run.answer.Goals as goal

pub returns-in-Ok : goal.returns-in-Ok
returns-in-Ok g c = λ bytes known. outcome_told bytes (input_in c.in-Ok.request) c.solve_request.result (c.in-Ok.ensures bytes known)
    c.solve_request.ensures.outcome (c.solve_request.ensures.fault bytes)
