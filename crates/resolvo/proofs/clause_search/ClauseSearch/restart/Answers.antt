use Rattle.std.proofs.Common.{refl}
use Rattle.resolver_clause_store.proofs.KeptLemmas.{keeps_all}
use Rattle.resolvo.specs.ClauseSearches.{IsConsistent, IsSameProblem}
use Rattle.resolvo.specs.WatchedClauses.{AreInLists}
use Rattle.resolvo.specs.declared.clause_search.ClauseSearch.{ClauseSearch}
use Rattle.resolvo.proofs.LoadLemmas.{problem-descended, problem-itself, problem-trans}
use Rattle.resolvo.proofs.clause_search.ClauseSearch.restart.Goals as goal

-- another proof that the clauses are in their lists changes nothing
same_opened : (a b : ClauseSearch) (in_lists : ∥ AreInLists b.table b.propagator.watches ∥₁) → IsConsistent b → IsSameProblem a b →
    IsSameProblem a (record b { in_lists = in_lists })
same_opened a b in_lists it same =
    problem-descended a b b.trail b.propagator b.queue in_lists it same refl (keeps_all b.trail b.trail (record { kept = λ v s h. h }))
    (record { was = λ v s at assumed. at })

pub returns-in_ok-return_to-in-Decide-clause-same : goal.returns-in_ok-return_to-in-Decide-clause-same
returns-in_ok-return_to-in-Decide-clause-same g c =
    let step = c.in_ok-choice.ensures in
    let old = c.args.self.now in
    problem-trans _ _ _ (same_opened old c.next_step.new.self _ step.consistent
    (problem-trans _ _ _ (same_opened old old _ c.requires.consistent (problem-itself old)) step.same)) c.in_ok-return_to-in-Decide.ensures.same

pub returns-in-Conflict-clause-same : goal.returns-in-Conflict-clause-same
returns-in-Conflict-clause-same g c =
    let old = c.args.self.now in
    problem-trans _ _ _ (same_opened old old _ c.requires.consistent (problem-itself old)) c.in_ok-choice.ensures.same

pub returns-in-Finished-clause-same : goal.returns-in-Finished-clause-same
returns-in-Finished-clause-same g c =
    let old = c.args.self.now in
    problem-trans _ _ _ (same_opened old old _ c.requires.consistent (problem-itself old)) c.in_ok-choice.ensures.same
