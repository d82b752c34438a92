use Rattle.resolve.proofs.run.outcome_of.Goals as goal

pub returns-in-Err-clause-outcome : goal.returns-in-Err-clause-outcome
returns-in-Err-clause-outcome c = λ input same solved. c.refusal_of.ensures.outcome input same (rw c.in-Err.is at solved)
