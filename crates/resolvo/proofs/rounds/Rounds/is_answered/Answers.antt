use Rattle.std.proofs.Common.{sym}
use Rattle.std.proofs.lemmas.Bool.{false≢true}
use Rattle.resolvo.specs.RoundStates.{IsFound}
use Rattle.resolvo.proofs.RefusingLemmas.{unanswered_core, unanswered_refused}
use Rattle.resolvo.proofs.rounds.Rounds.is_answered.Goals.{in-Answer, in-Contradiction, in-Refused}
use Rattle.resolvo.proofs.rounds.Rounds.is_answered.Goals as goal

pub returns-clause-unanswered : goal.returns-clause-unanswered
returns-clause-unanswered g c =
    let u = g.D.Interner.universe c.args.provider.now in
    let new = c.all_rounds.new.self in
    let found : IsFound u new c.in_ok-all_rounds.field-0 = c.in_ok-all_rounds.ensures.found in
    elim c.match-branch-2.branch [
      | in-Answer w ↦ rw w.result-is (λ off. absurd (false≢true (sym off)))
      | in-Contradiction w ↦ rw w.result-is (λ off. unanswered_core new _ (rw w.in-Contradiction.is at found))
      | in-Refused w ↦ rw w.result-is (λ off. unanswered_refused new (rw w.in-Refused.is at found))
    ]

pub returns-clause-limits : goal.returns-clause-limits
returns-clause-limits g c = c.all_rounds.ensures.limits

pub returns-clause-answer : goal.returns-clause-answer
returns-clause-answer g c =
    let u = g.D.Interner.universe c.args.provider.now in
    let found : IsFound u c.all_rounds.new.self c.in_ok-all_rounds.field-0 = c.in_ok-all_rounds.ensures.found in
    elim c.match-branch-2.branch [
      | in-Answer w ↦ rw w.result-is (λ on. rw w.in-Answer.is at found)
      | in-Contradiction w ↦ rw w.result-is (λ on. absurd (false≢true on))
      | in-Refused w ↦ rw w.result-is (λ on. absurd (false≢true on))
    ]

pub returns-clause-keeps : goal.returns-clause-keeps
returns-clause-keeps g c = elim c.match-branch-2.branch [
  | in-Answer w ↦ rw w.result-is c.in_ok-all_rounds.ensures.keeps
  | in-Contradiction w ↦ rw w.result-is c.in_ok-all_rounds.ensures.keeps
  | in-Refused w ↦ rw w.result-is c.in_ok-all_rounds.ensures.keeps
]

pub returns-clause-rounds : goal.returns-clause-rounds
returns-clause-rounds g c = elim c.match-branch-2.branch [
  | in-Answer w ↦ rw w.result-is c.in_ok-all_rounds.ensures.rounds
  | in-Contradiction w ↦ rw w.result-is c.in_ok-all_rounds.ensures.rounds
  | in-Refused w ↦ rw w.result-is c.in_ok-all_rounds.ensures.rounds
]

pub returns-clause-refusal : goal.returns-clause-refusal
returns-clause-refusal g c = elim c.match-branch-2.branch [
  | in-Answer w ↦ rw w.result-is tt
  | in-Contradiction w ↦ rw w.result-is tt
  | in-Refused w ↦ rw w.result-is tt
]
