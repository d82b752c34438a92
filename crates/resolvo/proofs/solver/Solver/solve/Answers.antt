use Rattle.std.proofs.Common.{List, ap, refl, subst, sym, ◌≡◌, ◌++◌, ◌∙◌}
use Rattle.std.specs.Prelude.{Ok, Option, map, IfSome}
use Rattle.resolver_clause_store.specs.Caches.{IsTrueCache}
use Rattle.resolver_clause_store.specs.declared.Cache.{Cache}
use Rattle.resolver_clause_store.specs.declared.SoftRequirement.TheVariants.{Solvable}
use Rattle.resolver_encoding.specs.Notes.{cache_in}
use Rattle.resolver_encoding.specs.declared.encoding.Encoding.{Encoding}
use Rattle.resolvo.specs.Answers.{AnswersFound, IsAnswerTo}
use Rattle.resolvo.specs.Problems.{AreItems, list_in, root_demands}
use Rattle.resolvo.specs.Refusals.{IsRefusal, RefusesFound}
use Rattle.resolvo.specs.RoundStates.{IsDone, IsFresh, IsStuck, IsSomeDone, KeepsRoundLimits, cache_of}
use Rattle.resolvo.specs.declared.rounds.Rounds.{Rounds}
use Rattle.resolvo.specs.Solvers.{IsAtLimit, exempt_in}
use Rattle.resolvo.specs.declared.rounds.Found.TheVariants.{Answer}
use Rattle.resolvo.proofs.OutcomeLemmas.{IfOk-both, at_limit, refusal_weaker, soft_given}
use Rattle.std.proofs.lemmas.Result.{IfOk-weaker, IfOk-at_ok, IfErr-weaker}
use Rattle.std.specs.Iterator.{IsFinite}
use Rattle.resolvo.proofs.solver.Solver.solve.Goals as goal

pub find-found-requires-clause-can_next : goal.find-found-requires-clause-can_next
find-found-requires-clause-can_next g c =
    let CanNext : Option g.row.S.Denot → Type 0 = λ o. IfSome o (λ it. g.S.Iterator.can_next it) in
    subst CanNext (sym c.take-soft.ensures.value) c.requires.can_next

pub find-found-requires-clause-ends : goal.find-found-requires-clause-ends
find-found-requires-clause-ends g c =
    let Ends : Option g.row.S.Denot → Type 0 = λ o. IfSome o (λ it. IsFinite (g.S.Iterator.remaining it)) in
    subst Ends (sym c.take-soft.ensures.value) c.requires.ends

pub find-found-requires-clause-fresh : goal.find-found-requires-clause-fresh
find-found-requires-clause-fresh g c =
    let Fresh : Rounds g.row.D-NameId.Denot g.row.D-SolvableId.Denot → Type 0 = λ r. IsFresh r in
    subst Fresh (sym c.replace-2.ensures.after) c.new-rounds.ensures.fresh

pub find-found-requires-clause-is_true : goal.find-found-requires-clause-is_true
find-found-requires-clause-is_true g c =
    let u = g.D.Interner.universe c.args.self.now.provider in
    let Known : Cache g.row.D-NameId.Denot g.row.D-SolvableId.Denot → Type 0 = λ cache. IsTrueCache u cache in
    let KnownOf : Rounds g.row.D-NameId.Denot g.row.D-SolvableId.Denot → Type 0 = λ r. IsTrueCache u (cache_of r) in
    let same = c.new-rounds.ensures.cache ∙ c.into_cache.ensures ∙ ap (λ (e : Encoding g.row.D-NameId.Denot g.row.D-SolvableId.Denot). cache_in e) c.replace.ensures.value in
    let known = subst KnownOf (sym c.replace-2.ensures.after) (subst Known (sym same) c.requires.sound.true_answers) in
    known

pub outcome-answer-requires-clause-table : goal.outcome-answer-requires-clause-table
outcome-answer-requires-clause-table g c = c.find-found.ensures.table

pub outcome-answer-requires-clause-sound : goal.outcome-answer-requires-clause-sound
outcome-answer-requires-clause-sound g c =
    let u = g.D.Interner.universe c.args.self.now.provider in
    let Known : Cache g.row.D-NameId.Denot g.row.D-SolvableId.Denot → Type 0 = λ cache. IsTrueCache u cache in
    let KnownOf : Rounds g.row.D-NameId.Denot g.row.D-SolvableId.Denot → Type 0 = λ r. IsTrueCache u (cache_of r) in
    let same = c.new-rounds.ensures.cache ∙ c.into_cache.ensures ∙ ap (λ (e : Encoding g.row.D-NameId.Denot g.row.D-SolvableId.Denot). cache_in e) c.replace.ensures.value in
    let known = subst KnownOf (sym c.replace-2.ensures.after) (subst Known (sym same) c.requires.sound.true_answers) in
    record { true_answers = c.find-found.ensures.limits.answers known; fits = c.requires.sound.fits }

pub outcome-answer-requires-clause-stop : goal.outcome-answer-requires-clause-stop
outcome-answer-requires-clause-stop g c = c.find-found.ensures.refusal

pub outcome-answer-requires-clause-none : goal.outcome-answer-requires-clause-none
outcome-answer-requires-clause-none g c = c.new.ensures.items

pub outcome-answer-requires-clause-done : goal.outcome-answer-requires-clause-done
outcome-answer-requires-clause-done g c =
    let u = g.D.Interner.universe c.args.self.now.provider in
    let rounds = c.find-found.new.self in
    let root = root_demands c.args.problem in
    let list = list_in c.args.problem in
    let w = soft_given (λ xs. AreItems g.S.Iterator.next_gives c.take-soft.result xs) (λ f. f ≡ Answer) (λ xs f.
    IsDone u root (map Solvable xs ++ list) rounds f) c.find-found.result c.find-found.ensures.done in
    IfOk-weaker c.find-found.result (IsDone u root (map Solvable w.0 ++ list) rounds) (IsSomeDone u rounds)
    (λ f done. record { root = root; soft = map Solvable w.0 ++ list; done = done }) w.2

pub returns-clause-sound : goal.returns-clause-sound
returns-clause-sound g c = let it = c.outcome-answer.ensures.sound in record { true_answers = it.true_answers; fits = it.fits }

pub returns-clause-provider : goal.returns-clause-provider
returns-clause-provider g c = c.outcome-answer.ensures.keeps.provider

pub returns-clause-limits : goal.returns-clause-limits
returns-clause-limits g c = let it = c.outcome-answer.ensures.keeps.limits in record { variables = it.variables; clauses = it.clauses; learnt = it.learnt }

pub returns-clause-activity : goal.returns-clause-activity
returns-clause-activity g c = c.outcome-answer.ensures.keeps.activity

pub returns-clause-none : goal.returns-clause-none
returns-clause-none g c = c.outcome-answer.ensures.none

pub returns-clause-answer : goal.returns-clause-answer
returns-clause-answer g c =
    let u = g.D.Interner.universe c.args.self.now.provider in
    let rounds = c.find-found.new.self in
    let new = c.outcome-answer.new.self in
    let root = root_demands c.args.problem in
    let list = list_in c.args.problem in
    let Gives : Option g.row.S.Denot → List g.row.D-SolvableId.Denot → Type 0 = λ o xs. AreItems g.S.Iterator.next_gives o xs in
    let w = soft_given (Gives c.take-soft.result) (λ f. f ≡ Answer) (λ xs f. IsDone u root (map Solvable xs ++ list) rounds f) c.find-found.result
    c.find-found.ensures.done in
    IfOk-both (λ chosen. AnswersFound u rounds c.find-found.result chosen.items (exempt_in new))
    (λ chosen. IsAnswerTo u g.S.Iterator.next_gives c.args.problem chosen.items (exempt_in new))
    (c.find-found.result ≡ Ok Answer)
    (λ chosen h is.
    let Given : Option g.row.S.Denot → Type 0 = λ o. Gives o w.0 in (
      w.0,
      subst Given c.take-soft.ensures.value (IfOk-at_ok (λ f. f ≡ Answer → Gives c.take-soft.result w.0) is w.1 refl),
      h root (map Solvable w.0 ++ list) w.2,
    ))
    c.outcome-answer.result c.outcome-answer.ensures.answer c.outcome-answer.ensures.found

pub returns-clause-refusal : goal.returns-clause-refusal
returns-clause-refusal g c =
    let u = g.D.Interner.universe c.args.self.now.provider in
    let may_cancel = g.D.DependencyProvider.may_cancel c.args.self.now.provider in
    let rounds = c.find-found.new.self in
    let new = c.outcome-answer.new.self in
    let root = root_demands c.args.problem in
    let list = list_in c.args.problem in
    let Gives : Option g.row.S.Denot → List g.row.D-SolvableId.Denot → Type 0 = λ o xs. AreItems g.S.Iterator.next_gives o xs in
    let w = soft_given (Gives c.take-soft.result) (λ f. f ≡ Answer) (λ xs f. IsDone u root (map Solvable xs ++ list) rounds f) c.find-found.result
    c.find-found.ensures.done in
    let made = c.new-rounds.ensures in
    let limits = c.outcome-answer.ensures.keeps.limits in
    let Room : Rounds g.row.D-NameId.Denot g.row.D-SolvableId.Denot → Type 0 = λ r. KeepsRoundLimits u r rounds in
    let room : Room c.new-rounds.result = subst Room c.replace-2.ensures.after c.find-found.ensures.limits in
    IfErr-weaker c.outcome-answer.result (λ e. RefusesFound u may_cancel rounds c.find-found.result e)
    (λ e. IsRefusal u may_cancel root (IsAtLimit new) e)
    (λ e h. refusal_weaker u may_cancel root (IsStuck rounds) (IsAtLimit new)
    (at_limit u c.new-rounds.result rounds c.args.self.now new room made.variables made.clauses made.all_clauses made.learnt
    (record { variables = limits.variables; clauses = limits.clauses; learnt = limits.learnt }) c.outcome-answer.ensures.keeps.notes
    c.outcome-answer.ensures.keeps.search)
    e (h root (map Solvable w.0 ++ list) w.2))
    c.outcome-answer.ensures.refusal
