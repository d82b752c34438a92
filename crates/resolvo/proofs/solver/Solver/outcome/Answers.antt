use Rattle.std.proofs.Common.{List, ap, ◌∙◌, subst, sym, ◌≡◌, ℕ, refl, ◌<◌, length, arith, Vec, Global}
use Rattle.std.specs.Prelude.{Ok, All}
use Rattle.resolver_clause_store.specs.Outcomes.{IsCore}
use Rattle.resolver_encoding.specs.SoFar.{IsReadSoFar}
use Rattle.resolvo.specs.RoundStates.{IsDone, IsStuck, chosen_of, notes_of, IsBetween, IsSomeDone}
use Rattle.resolvo.proofs.OutcomeLemmas.{OnOk-of, refusal_weaker, IfOk-both, soft_answer}
use Rattle.resolvo.specs.declared.rounds.Found.TheVariants.{Answer, Contradiction}
use Rattle.resolver_clause_store.specs.Universe.{Universe}
use Rattle.resolver_clause_store.specs.declared.Exhausted.TheVariants.{Memory}
use Rattle.resolvo.specs.Answers.{AnswersFound}
use Rattle.resolvo.specs.Refusals.{RefusesFound}
use Rattle.resolvo.specs.Solvers.{exempt_in}
use Rattle.resolvo.specs.declared.solver.UnsolvableOrCancelled.TheVariants.{Exhausted}
use Rattle.resolvo.specs.declared.rounds.Found.{Found}
use Rattle.resolvo.specs.declared.rounds.Rounds.{Rounds}
use Rattle.resolvo.proofs.solver.Solver.outcome.Goals as goal
use Rattle.std.proofs.lemmas.Result.{IfOk-at_ok, IfErr-weaker}

-- each clause of a core that was found has a number in the table
core_within : {N S : Type 0} (u : Universe N S) (rounds : Rounds N S) (found : Found) (core : Vec ℕ Global) → found ≡ Contradiction core →
    IsSomeDone u rounds found → All (λ n. n < length (notes_of rounds).table) core.items
core_within u rounds found core is done =
    let For : Found → Type 0 = λ f. IsSomeDone u rounds f in
    let some : IsSomeDone u rounds (Contradiction core) = subst For is done in
    some.done.1.within

pub returns-in-Ok-Contradiction : goal.returns-in-Ok-Contradiction
returns-in-Ok-Contradiction g c =
    record {
      sound = c.refuse.ensures.sound;
      keeps = c.refuse.ensures.keeps;
      none = c.refuse.ensures.exempt ∙ c.requires.none;
      found = tt;
      answer = tt;
      refusal = λ root soft done.
          let u = g.D.Interner.universe c.args.self.now.provider in
          let rounds = c.args.self.now.rounds in
          let it : IsDone u root soft rounds c.in-Ok-Contradiction.field-0 =
          IfOk-at_ok (IsDone u root soft rounds) c.in-Ok-Contradiction.is done in
          let both : IsReadSoFar u root (chosen_of rounds) (notes_of rounds) × IsCore (notes_of rounds).table c.in-Ok-Contradiction.core.items =
          rw c.in-Ok-Contradiction.field-0-is at it in
          let CoreOf : List ℕ → Type 0 = λ ns. IsCore (notes_of rounds).table ns in
          refusal_weaker u (g.D.DependencyProvider.may_cancel c.args.self.now.provider) root ⊥ (IsStuck rounds) (λ none. absurd none) c.refuse.result
          (c.refuse.ensures.refusal root both.0.half.encoding (subst CoreOf (sym c.deref.ensures.value) both.1));
    }

pub returns-in-Ok-Answer : goal.returns-in-Ok-Answer
returns-in-Ok-Answer g c =
    record {
      sound = c.accept.ensures.sound;
      keeps = c.accept.ensures.keeps;
      none = c.accept.ensures.none;
      found = OnOk-of (c.args.found ≡ Ok Answer) (c.in-Ok-Answer.is ∙ ap Ok c.in-Ok-Answer.field-0-is) c.accept.result;
      answer = let u = g.D.Interner.universe c.args.self.now.provider in
          let rounds = c.args.self.now.rounds in
          let exempt = exempt_in c.accept.new.self in
          IfOk-both (λ chosen. chosen.items ≡ chosen_of rounds)
          (λ chosen. AnswersFound u rounds c.args.found chosen.items exempt)
          (exempt ≡ (notes_of rounds).exempt)
          (λ chosen are free root soft done. let it : IsDone u root soft rounds c.in-Ok-Answer.field-0 =
          IfOk-at_ok (IsDone u root soft rounds) c.in-Ok-Answer.is done in
          let between : IsBetween u root soft rounds = rw c.in-Ok-Answer.field-0-is at it in
          soft_answer {E = g.row.D.Denot} u rounds (Ok chosen) exempt are free root soft between)
          c.accept.result c.accept.ensures.chosen c.accept.ensures.exempt;
      refusal = let u = g.D.Interner.universe c.args.self.now.provider in
          let rounds = c.args.self.now.rounds in
          IfErr-weaker c.accept.result (λ e. e ≡ Exhausted Memory)
          (λ e. RefusesFound u (g.D.DependencyProvider.may_cancel c.args.self.now.provider) rounds c.args.found e)
          (λ e is root soft done. rw is tt) c.accept.ensures.memory;
    }

pub returns-in-Err-Cancelled : goal.returns-in-Err-Cancelled
returns-in-Err-Cancelled g c =
    record {
      sound = c.requires.sound;
      keeps = record { provider = refl; limits = record { variables = refl; clauses = refl; learnt = refl }; activity = refl; notes = refl; search = refl };
      none = c.requires.none;
      found = tt;
      answer = tt;
      refusal = λ root soft done. rw c.in-Err-Cancelled.field-0-is at (rw c.in-Err-Cancelled.is at c.requires.stop);
    }

pub returns-in-Err-Exhausted : goal.returns-in-Err-Exhausted
returns-in-Err-Exhausted g c =
    record {
      sound = c.requires.sound;
      keeps = record { provider = refl; limits = record { variables = refl; clauses = refl; learnt = refl }; activity = refl; notes = refl; search = refl };
      none = c.requires.none;
      found = tt;
      answer = tt;
      refusal = λ root soft done. rw c.in-Err-Exhausted.field-0-is at (rw c.in-Err-Exhausted.is at c.requires.stop);
    }

pub returns-in-Ok-Refused : goal.returns-in-Ok-Refused
returns-in-Ok-Refused g c =
    record {
      sound = c.refuse-in-Ok-Refused.ensures.sound;
      keeps = c.refuse-in-Ok-Refused.ensures.keeps;
      none = c.refuse-in-Ok-Refused.ensures.exempt ∙ c.requires.none;
      found = tt;
      answer = tt;
      refusal = λ root soft done.
          let u = g.D.Interner.universe c.args.self.now.provider in
          let rounds = c.args.self.now.rounds in
          let it : IsDone u root soft rounds c.in-Ok-Refused.field-0 =
          IfOk-at_ok (IsDone u root soft rounds) c.in-Ok-Refused.is done in
          absurd (rw c.in-Ok-Refused.field-0-is at it);
    }

pub refuse-requires-in-Ok-Refused-clause-within : goal.refuse-requires-in-Ok-Refused-clause-within
refuse-requires-in-Ok-Refused-clause-within g c = λ k d below. absurd (omega (arith, below))

pub refuse-requires-clause-within : goal.refuse-requires-clause-within
refuse-requires-clause-within g c =
    let u = g.D.Interner.universe c.args.self.now.provider in
    let rounds = c.args.self.now.rounds in
    let done = IfOk-at_ok (IsSomeDone u rounds) c.in-Ok-Contradiction.is c.requires.done in
    let within = core_within u rounds c.in-Ok-Contradiction.field-0 c.in-Ok-Contradiction.core c.in-Ok-Contradiction.field-0-is done in
    let table = rw c.in-Ok-Contradiction.is at c.requires.table in
    let In : ℕ → Type 0 = λ m. All (λ n. n < m) c.in-Ok-Contradiction.core.items in
    let Of : List ℕ → Type 0 = λ ns. All (λ n. n < length (notes_of rounds).kinds) ns in
    subst Of (sym c.deref.ensures.value) (subst In table within)
