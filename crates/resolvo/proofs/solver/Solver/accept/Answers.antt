use Rattle.std.proofs.Common.{refl, ap, ◌∙◌}
use Rattle.resolvo.specs.declared.solver.UnsolvableOrCancelled.TheVariants.{Exhausted}
use Rattle.resolvo.proofs.solver.Solver.accept.Goals as goal

pub returns-in-Err-clause-sound : goal.returns-in-Err-clause-sound
returns-in-Err-clause-sound g c = c.requires.sound

pub returns-in-Err-from_slice-clause-sound : goal.returns-in-Err-from_slice-clause-sound
returns-in-Err-from_slice-clause-sound g c = c.requires.sound

pub returns-in-Err-clause-keeps : goal.returns-in-Err-clause-keeps
returns-in-Err-clause-keeps g c =
    record { provider = refl; limits = record { variables = refl; clauses = refl; learnt = refl }; activity = refl; notes = refl; search = refl }

pub returns-in-Err-clause-memory : goal.returns-in-Err-clause-memory
returns-in-Err-clause-memory g c = ap Exhausted c.in-Err.ensures.memory

pub returns-in-Err-clause-none : goal.returns-in-Err-clause-none
returns-in-Err-clause-none g c = c.requires.none

pub returns-in-Err-from_slice-clause-keeps : goal.returns-in-Err-from_slice-clause-keeps
returns-in-Err-from_slice-clause-keeps g c =
    record { provider = refl; limits = record { variables = refl; clauses = refl; learnt = refl }; activity = refl; notes = refl; search = refl }

pub returns-in-Err-from_slice-clause-memory : goal.returns-in-Err-from_slice-clause-memory
returns-in-Err-from_slice-clause-memory g c = refl

pub returns-in-Err-from_slice-clause-none : goal.returns-in-Err-from_slice-clause-none
returns-in-Err-from_slice-clause-none g c = c.requires.none

pub returns-in-Ok-from_slice-clause-chosen : goal.returns-in-Ok-from_slice-clause-chosen
returns-in-Ok-from_slice-clause-chosen g c = c.in-Ok.ensures.list

pub returns-in-Ok-from_slice-clause-exempt : goal.returns-in-Ok-from_slice-clause-exempt
returns-in-Ok-from_slice-clause-exempt g c = c.in-Ok-from_slice.ensures.items ∙ c.exempt.ensures

pub returns-in-Ok-from_slice-clause-keeps : goal.returns-in-Ok-from_slice-clause-keeps
returns-in-Ok-from_slice-clause-keeps g c =
    record { provider = refl; limits = record { variables = refl; clauses = refl; learnt = refl }; activity = refl; notes = refl; search = refl }

pub returns-in-Ok-from_slice-clause-sound : goal.returns-in-Ok-from_slice-clause-sound
returns-in-Ok-from_slice-clause-sound g c = record { true_answers = c.requires.sound.true_answers; fits = c.requires.sound.fits }
