use Rattle.resolve.proofs.run.read_all.Goals as goal

pub returns-in-Err : goal.returns-in-Err
returns-in-Err g c = λ bytes _. c.in-Err.ensures.fault bytes
