use Rattle.std.proofs.Common.{ap, arith, refl, ◌≡◌}
use Rattle.resolver_clause_store.specs.TrailView.{variable_count}
use Rattle.resolver_clause_store.specs.Queues.{IsQueued}
use Rattle.resolver_clause_store.specs.WatchesView.{pairs_of}
use Rattle.resolver_clause_store.specs.declared.Trail.{Trail}
use Rattle.resolver_clause_store.specs.declared.Watches.{Watches}
use Rattle.resolver_clause_store.specs.declared.queue.DecideQueue.{DecideQueue}
use Rattle.resolver_clause_store.proofs.KeptLemmas.{keeps_all}
use Rattle.resolver_clause_store.proofs.QueueLemmas.{queued-longer}
use Rattle.resolvo.specs.ClauseSearches.{IsConsistent, IsSameProblem}
use Rattle.resolvo.specs.Propagation.{ExtendsTrail, IsJustified}
use Rattle.resolvo.specs.Propagators.{IsPropagator}
use Rattle.resolvo.specs.WatchedClauses.{AreInLists}
use Rattle.resolvo.specs.declared.clause_search.ClauseSearch.{ClauseSearch}
use Rattle.resolvo.specs.declared.propagator.Propagator.{Propagator}
use Rattle.resolvo.proofs.JustifiedLemmas.{chosen-extends}
use Rattle.resolvo.proofs.LoadLemmas.{problem-descended, problem-itself, problem-trans}
use Rattle.resolvo.proofs.TurnLemmas.{consistent-descended, none-extends}
use Rattle.resolvo.proofs.WatchedLemmas.{in_lists, owned-either, owned-of, owned-same}
use Rattle.resolvo.proofs.clause_search.ClauseSearch.next_step.Goals as goal

-- the trail goes on without a decision, and the queue may change
extended : (it : ClauseSearch) (trail : Trail) (propagator : Propagator) (queue : DecideQueue)
    (in_lists : ∥ AreInLists it.table propagator.watches ∥₁) → IsConsistent it → variable_count trail ≡ variable_count it.trail →
    IsJustified it.table trail → ExtendsTrail it.trail trail → IsPropagator it.table trail propagator →
    IsQueued queue trail it.table it.requirements.items →
    IsConsistent (record it { trail = trail; propagator = propagator; queue = queue; in_lists = in_lists }) ×
    IsSameProblem it (record it { trail = trail; propagator = propagator; queue = queue; in_lists = in_lists })
extended it trail propagator queue in_lists holds size justified extends propagates queued =
    let kept = keeps_all it.trail trail (record { kept = extends.kept }) in (
      consistent-descended it trail propagator queue in_lists holds size justified
          (chosen-extends it.table it.requirements.items it.trail trail holds.chosen extends) kept propagates queued,
      problem-descended it it trail propagator queue in_lists holds (problem-itself it) size kept (none-extends it.trail trail extends),
    )

-- the queue stays right while the trail grows
still_queued : (it : ClauseSearch) (trail : Trail) → ExtendsTrail it.trail trail → IsConsistent it → IsQueued it.queue trail it.table it.requirements.items
still_queued it trail extends holds =
    queued-longer it.queue it.trail trail it.table it.requirements.items (keeps_all it.trail trail (record { kept = extends.kept })) holds.queued

pub invariant_of-self : goal.invariant_of-self
invariant_of-self g c = record {
  in_lists = ∣ in_lists _ _ (owned-same _ _ _ (ap (λ (w : Watches). pairs_of w) c.apply_all_pending.ensures.watches) (owned-of _ _ _ c.requires.consistent.propagator)) ∣₁;
}

pub invariant_of-self-in-Some-1 : goal.invariant_of-self-in-Some-1
invariant_of-self-in-Some-1 g c = record {
  in_lists = ∣ in_lists _ _ (owned-same _ _ _ (ap (λ (w : Watches). pairs_of w) c.apply_all_pending.ensures.watches) (owned-of _ _ _ c.requires.consistent.propagator)) ∣₁;
}

pub invariant_of-self-in-Break-branch-4 : goal.invariant_of-self-in-Break-branch-4
invariant_of-self-in-Break-branch-4 g c = record {
  in_lists = ∣ in_lists _ _ (owned-either c.propagate.result _ _ _ c.propagate.ensures.propagator c.propagate.ensures.refused) ∣₁;
}

pub invariant_of-self-in-Some-branch-5 : goal.invariant_of-self-in-Some-branch-5
invariant_of-self-in-Some-branch-5 g c = record {
  in_lists = ∣ in_lists _ _ (owned-either c.propagate.result _ _ _ c.propagate.ensures.propagator c.propagate.ensures.refused) ∣₁;
}

pub invariant_of-self-2 : goal.invariant_of-self-2
invariant_of-self-2 g c = record {
  in_lists = ∣ in_lists _ _ (owned-either c.propagate.result _ _ _ c.propagate.ensures.propagator c.propagate.ensures.refused) ∣₁;
}

pub returns-in-Some : goal.returns-in-Some
returns-in-Some g c =
    let old = c.args.self.now in
    let first = c.in_ok-number.ensures in
    let trail = c.apply_all_pending.new.trail in
    let owned = ∣ in_lists old.table c.apply_all_pending.new.propagator.watches
    (owned-same _ _ _ (ap (λ (w : Watches). pairs_of w) c.apply_all_pending.ensures.watches) (owned-of _ _ _ c.requires.consistent.propagator)) ∣₁ in
    let one = extended old trail c.apply_all_pending.new.propagator old.queue _ c.requires.consistent first.step.size first.step.justified
    first.step.extends first.propagator (still_queued old trail first.step.extends c.requires.consistent) in
    record {
      consistent = one.0;
      same = one.1;
      learnt = refl;
      step = rw c.in-Some.is at first.conflict;
      fewer = first.step.open_less;
      refusal = tt;
    }

pub next-requires-clause-queued : goal.next-requires-clause-queued
next-requires-clause-queued g c =
    let old = c.args.self.now in
    let first = c.in_ok-number.ensures in
    let trail = c.apply_all_pending.new.trail in
    let owned = ∣ in_lists old.table c.apply_all_pending.new.propagator.watches
    (owned-same _ _ _ (ap (λ (w : Watches). pairs_of w) c.apply_all_pending.ensures.watches) (owned-of _ _ _ c.requires.consistent.propagator)) ∣₁ in
    let one = extended old trail c.apply_all_pending.new.propagator old.queue owned c.requires.consistent first.step.size first.step.justified
    first.step.extends first.propagator (still_queued old trail first.step.extends c.requires.consistent) in
    let middle : ClauseSearch = record old { trail = trail; propagator = c.apply_all_pending.new.propagator; in_lists = owned } in
    let second = c.propagate.ensures.propagates in
    rw c.as_slice-requirements.ensures.value (still_queued middle c.propagate.new.trail second.extends one.0)

pub returns-in-Some-2 : goal.returns-in-Some-2
returns-in-Some-2 g c =
    let old = c.args.self.now in
    let first = c.in_ok-number.ensures in
    let trail = c.apply_all_pending.new.trail in
    let owned = ∣ in_lists old.table c.apply_all_pending.new.propagator.watches
    (owned-same _ _ _ (ap (λ (w : Watches). pairs_of w) c.apply_all_pending.ensures.watches) (owned-of _ _ _ c.requires.consistent.propagator)) ∣₁ in
    let one = extended old trail c.apply_all_pending.new.propagator old.queue owned c.requires.consistent first.step.size first.step.justified
    first.step.extends first.propagator (still_queued old trail first.step.extends c.requires.consistent) in
    let middle : ClauseSearch = record old { trail = trail; propagator = c.apply_all_pending.new.propagator; in_lists = owned } in
    let second = c.propagate.ensures.propagates in
    let end = extended middle c.propagate.new.trail c.propagate.new.propagator old.queue _ one.0 second.size second.justified second.extends
    c.in_ok-number-2.ensures.propagator (still_queued middle c.propagate.new.trail second.extends one.0) in
    record {
      consistent = end.0;
      same = problem-trans _ _ _ one.1 end.1;
      learnt = refl;
      step = rw c.in-Some-2.is at c.in_ok-number-2.ensures.conflict;
      fewer = omega (arith, first.step.open_less, second.open_ones);
      refusal = tt;
    }

pub returns-in-Some-3 : goal.returns-in-Some-3
returns-in-Some-3 g c =
    let old = c.args.self.now in
    let first = c.in_ok-number.ensures in
    let trail = c.apply_all_pending.new.trail in
    let owned = ∣ in_lists old.table c.apply_all_pending.new.propagator.watches
    (owned-same _ _ _ (ap (λ (w : Watches). pairs_of w) c.apply_all_pending.ensures.watches) (owned-of _ _ _ c.requires.consistent.propagator)) ∣₁ in
    let one = extended old trail c.apply_all_pending.new.propagator old.queue owned c.requires.consistent first.step.size first.step.justified
    first.step.extends first.propagator (still_queued old trail first.step.extends c.requires.consistent) in
    let middle : ClauseSearch = record old { trail = trail; propagator = c.apply_all_pending.new.propagator; in_lists = owned } in
    let second = c.propagate.ensures.propagates in
    let end = extended middle c.propagate.new.trail c.propagate.new.propagator c.next.new.self _ one.0 second.size second.justified second.extends
    c.in_ok-number-2.ensures.propagator (rw c.as_slice-requirements.ensures.value at c.in_ok-choice.ensures.queued) in
    record {
      consistent = end.0;
      same = problem-trans _ _ _ one.1 end.1;
      learnt = refl;
      step = rw (c.in-Some-3.is, c.as_slice-requirements.ensures.value) at c.in_ok-choice.ensures.some;
      fewer = omega (arith, first.step.open_less, second.open_ones);
      refusal = tt;
    }

pub returns-in-None : goal.returns-in-None
returns-in-None g c =
    let old = c.args.self.now in
    let first = c.in_ok-number.ensures in
    let trail = c.apply_all_pending.new.trail in
    let owned = ∣ in_lists old.table c.apply_all_pending.new.propagator.watches
    (owned-same _ _ _ (ap (λ (w : Watches). pairs_of w) c.apply_all_pending.ensures.watches) (owned-of _ _ _ c.requires.consistent.propagator)) ∣₁ in
    let one = extended old trail c.apply_all_pending.new.propagator old.queue owned c.requires.consistent first.step.size first.step.justified
    first.step.extends first.propagator (still_queued old trail first.step.extends c.requires.consistent) in
    let middle : ClauseSearch = record old { trail = trail; propagator = c.apply_all_pending.new.propagator; in_lists = owned } in
    let second = c.propagate.ensures.propagates in
    let end = extended middle c.propagate.new.trail c.propagate.new.propagator c.next.new.self _ one.0 second.size second.justified second.extends
    c.in_ok-number-2.ensures.propagator (rw c.as_slice-requirements.ensures.value at c.in_ok-choice.ensures.queued) in
    record {
      consistent = end.0;
      same = problem-trans _ _ _ one.1 end.1;
      learnt = refl;
      step = record { settled = rw c.in_default-2.is at c.in_ok-number-2.ensures.settled; met = rw (c.in-None.is, c.as_slice-requirements.ensures.value) at c.in_ok-choice.ensures.none };
      fewer = omega (arith, first.step.open_less, second.open_ones);
      refusal = tt;
    }
