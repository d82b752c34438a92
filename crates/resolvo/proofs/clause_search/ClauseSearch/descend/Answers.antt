use Rattle.std.proofs.Common.{arith, refl, ◌∙◌}
use Rattle.resolvo.proofs.LoadLemmas.{problem-itself, problem-trans}
use Rattle.resolvo.proofs.clause_search.ClauseSearch.descend.Goals as goal

pub returns-in-Conflict : goal.returns-in-Conflict
returns-in-Conflict g c =
    let step = c.in_ok-choice.ensures in
    record {
      consistent = step.consistent;
      same = problem-trans _ _ _ c.steps.invariant.same step.same;
      learnt = step.learnt ∙ c.steps.invariant.learnt;
      conflict = rw c.in-Conflict.is at step.step;
      done = tt;
      refusal = tt;
    }

pub returns-in-Finished : goal.returns-in-Finished
returns-in-Finished g c =
    let step = c.in_ok-choice.ensures in
    record {
      consistent = step.consistent;
      same = problem-trans _ _ _ c.steps.invariant.same step.same;
      learnt = step.learnt ∙ c.steps.invariant.learnt;
      conflict = tt;
      done = rw c.in-Finished.is at step.step;
      refusal = tt;
    }

pub steps-init : goal.steps-init
steps-init g c = record { consistent = c.requires.consistent; same = problem-itself _; learnt = refl }

pub steps-preserved : goal.steps-preserved
steps-preserved g c =
    let step = c.in_ok-choice.ensures in
    let took = c.in_ok-take-in-Decide.ensures in
    record {
      consistent = took.consistent;
      same = problem-trans _ _ _ c.steps.invariant.same (problem-trans _ _ _ step.same took.same);
      learnt = took.learnt ∙ step.learnt ∙ c.steps.invariant.learnt;
    }

pub steps-smaller : goal.steps-smaller
steps-smaller g c = omega (arith, c.in_ok-take-in-Decide.ensures.fewer, c.in_ok-choice.ensures.fewer)

pub take-requires-clause-consistent : goal.take-requires-clause-consistent
take-requires-clause-consistent g c = c.in_ok-choice.ensures.consistent

pub take-requires-clause-choice : goal.take-requires-clause-choice
take-requires-clause-choice g c = rw c.in-Decide.is at c.in_ok-choice.ensures.step
