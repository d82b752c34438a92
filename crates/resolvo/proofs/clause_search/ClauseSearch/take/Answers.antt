use Rattle.std.specs.Prelude.{◌+◌, List}
use Rattle.std.proofs.Common.{ap, ◌∙◌, arith, refl, subst}
use Rattle.std.proofs.lemmas.List.{get_or_default}
use Rattle.resolver_clause_store.specs.Literals.{Literal}
use Rattle.resolver_clause_store.specs.declared.Reason.TheVariants.{Decided}
use Rattle.resolver_clause_store.specs.Formula.{clause_at}
use Rattle.resolver_clause_store.specs.TrailView.{Gains, level_of, literal_value}
use Rattle.resolver_clause_store.proofs.KeptLemmas.{keeps_all}
use Rattle.resolver_clause_store.proofs.QueueLemmas.{queued-longer}
use Rattle.resolver_clause_store.proofs.TrailLemmas.{value-none, keeps-gains}
use Rattle.resolvo.proofs.ClauseSearchLemmas.{chosen-decides}
use Rattle.resolvo.proofs.JustifiedLemmas.{decided-forced, justified-decides}
use Rattle.resolvo.proofs.LoadLemmas.{problem-descended, problem-itself}
use Rattle.resolvo.proofs.PropagatorLemmas.{propagator-gains}
use Rattle.resolvo.proofs.TurnLemmas.{consistent-descended, decided-assumed, none-gains}
use Rattle.resolvo.proofs.clause_search.ClauseSearch.take.Goals as goal

pub returns : goal.returns
returns c =
    let old = c.args.self.now in
    let it = c.requires.consistent in
    let gains = c.in_ok-decide.ensures.ok in
    let first = c.requires.choice.chosen.first in
    let read = rw c.clause.ensures at c.index-clause-choice.is in
    let free = value-none _ _ (ap (λ l. literal_value old.trail l) read ∙ first.free c.index-clause-choice.result) in
    let kept = keeps_all _ _ (keeps-gains _ _ _ _ _ gains free) in
    record {
      consistent = consistent-descended old c.decide.new.self old.propagator old.queue _ it gains.size
          (justified-decides _ _ _ _ _ _ (λ n. decided-forced _ n) it.justified gains free)
          (chosen-decides _ _ _ _ c.index-clause-choice.result _ _ gains free read c.requires.choice it.chosen) kept
          (propagator-gains _ _ _ old.propagator _ _ _ gains free it.propagator)
          (queued-longer old.queue old.trail c.decide.new.self old.table old.requirements.items kept it.queued);
      same = problem-descended _ old c.decide.new.self old.propagator old.queue _ it (problem-itself old) gains.size kept
          (none-gains _ _ _ _ _ gains (decided-assumed _));
      learnt = refl;
      taken = λ d.
          let literals : List Literal = clause_at old.table c.args.choice.number in
          let Gained : Literal → Type 0 = λ l. Gains old.trail c.decide.new.self l (level_of old.trail + 1) (Decided c.args.choice.number) in
          subst Gained (read ∙ get_or_default literals c.args.choice.place c.index-clause-choice.result d first.within) gains;
      given = refl;
      requirements = refl;
      fewer = omega (arith, gains.fewer_open);
    }
