use Rattle.resolver_encoding.proofs.RefusalLemmas.{shortage_of_memory}
use Rattle.std.proofs.Common.{refl}
use Rattle.resolvo.specs.RoundStates.{notes_of}
use Rattle.resolvo.proofs.solver.Solver.refuse.Goals as goal

pub returns-in-Err-Cancelled : goal.returns-in-Err-Cancelled
returns-in-Err-Cancelled g c =
    record {
      sound = record { true_answers = c.explain.ensures.limits.answers c.requires.sound.true_answers; fits = c.requires.sound.fits };
      keeps = record { provider = refl; limits = record { variables = refl; clauses = refl; learnt = refl }; activity = refl; notes = c.explain.ensures.same; search = refl };
      exempt = refl;
      refusal = λ root encoding core. rw c.in-Err-Cancelled.field-0-is at (rw c.in-Err-Cancelled.is at c.explain.ensures.refusal);
    }

pub returns-in-Err-Exhausted : goal.returns-in-Err-Exhausted
returns-in-Err-Exhausted g c =
    record {
      sound = record { true_answers = c.explain.ensures.limits.answers c.requires.sound.true_answers; fits = c.requires.sound.fits };
      keeps = record { provider = refl; limits = record { variables = refl; clauses = refl; learnt = refl }; activity = refl; notes = c.explain.ensures.same; search = refl };
      exempt = refl;
      refusal = λ root encoding core.
          shortage_of_memory _ _ (rw c.in-Err-Exhausted.field-0-is at (rw c.in-Err-Exhausted.is at c.explain.ensures.refusal));
    }

pub returns-in-Ok : goal.returns-in-Ok
returns-in-Ok g c =
    record {
      sound = record { true_answers = c.explain.ensures.limits.answers c.requires.sound.true_answers; fits = c.requires.sound.fits };
      keeps = record { provider = refl; limits = record { variables = refl; clauses = refl; learnt = refl }; activity = refl; notes = c.explain.ensures.same; search = refl };
      exempt = refl;
      refusal = λ root encoding core.
          (rw c.in-Ok.is at c.explain.ensures.explained) root (notes_of c.args.self.now.rounds) refl encoding core;
    }
