use Rattle.resolvo.proofs.LoadLemmas.{finished_for, problem-trans}
use Rattle.resolver_encoding.proofs.RefusalLemmas.{IfErr-stop}
use Rattle.std.proofs.lemmas.Result.{IfOk-from_err}
use Rattle.resolvo.proofs.clause_search.ClauseSearch.run.Goals as goal

pub returns-in-None : goal.returns-in-None
returns-in-None g c =
    let step = c.in_ok-descend.ensures in
    let same = problem-trans _ _ _ c.conflicts.invariant.1 step.same in
    record {
      outcome = λ given numbers before requirements are.
          let found = c.descend.new.self in
          let it = step.consistent in
          let loaded = same.loaded given numbers before in
          let done = rw c.in-None.is at step.done in
          finished_for given found.table found.sources found.places found.requirements.items requirements numbers found.trail are it.derived it.justified
          it.chosen loaded.clauses loaded.requirements loaded.inside done.settled done.met;
      consistent = step.consistent;
      loaded = same.loaded;
      variables = same.variables;
      kept = same.kept;
      turn = same.turn;
      refusal = tt;
    }

pub returns-in-Some-2 : goal.returns-in-Some-2
returns-in-Some-2 g c =
    let before = problem-trans _ _ _ c.conflicts.invariant.1 c.in_ok-descend.ensures.same in
    let same = problem-trans _ _ _ before c.in_ok-outcome-in-Some.ensures.same in
    record {
      outcome = λ given numbers loaded. (rw c.in-Some-2.is at c.in_ok-outcome-in-Some.ensures.outcome) given numbers (before.loaded given numbers loaded);
      consistent = c.in_ok-outcome-in-Some.ensures.consistent;
      loaded = same.loaded;
      variables = same.variables;
      kept = same.kept;
      turn = same.turn;
      refusal = tt;
    }

pub conflicts-preserved : goal.conflicts-preserved
conflicts-preserved g c =
    let jump = c.in_ok-restart-in-None-2.ensures in (
      jump.consistent,
      problem-trans _ _ _ c.conflicts.invariant.1 (problem-trans _ _ _ c.in_ok-descend.ensures.same (problem-trans _ _ _ c.in_ok-outcome-in-Some.ensures.same jump.same)),
    )

pub descend-requires : goal.descend-requires
descend-requires g c = record { consistent = c.conflicts.invariant.0 }

pub learn-requires-clause-consistent : goal.learn-requires-clause-consistent
learn-requires-clause-consistent g c = c.in_ok-descend.ensures.consistent

pub learn-requires-clause-conflict : goal.learn-requires-clause-conflict
learn-requires-clause-conflict g c = rw c.in-Some.is at c.in_ok-descend.ensures.conflict

pub returns-in_err-restart-in-None-2 : goal.returns-in_err-restart-in-None-2
returns-in_err-restart-in-None-2 g c =
    record {
      outcome = IfOk-from_err c.from_residual-in_err-restart-in-None-2.result _ c.from_residual-in_err-restart-in-None-2.ensures.0;
      consistent = IfOk-from_err c.from_residual-in_err-restart-in-None-2.result _ c.from_residual-in_err-restart-in-None-2.ensures.0;
      loaded = IfOk-from_err c.from_residual-in_err-restart-in-None-2.result _ c.from_residual-in_err-restart-in-None-2.ensures.0;
      variables = IfOk-from_err c.from_residual-in_err-restart-in-None-2.result _ c.from_residual-in_err-restart-in-None-2.ensures.0;
      kept = IfOk-from_err c.from_residual-in_err-restart-in-None-2.result _ c.from_residual-in_err-restart-in-None-2.ensures.0;
      turn = IfOk-from_err c.from_residual-in_err-restart-in-None-2.result _ c.from_residual-in_err-restart-in-None-2.ensures.0;
      refusal = IfErr-stop c.from_residual-in_err-restart-in-None-2.result (g.D.DependencyProvider.may_cancel c.args.provider.now) _ _ c.from_residual-in_err-restart-in-None-2.ensures.1 c.in_err-restart-in-None-2.ensures.refusal;
    }
