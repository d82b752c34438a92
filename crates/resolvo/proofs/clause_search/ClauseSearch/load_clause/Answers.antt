use Rattle.std.proofs.Common.{arith, length-append, rules, refl, ap, ◌∙◌, ◌≡◌, length, min, inl}
use Rattle.resolver_clause_store.specs.TrailView.{length_of}
use Rattle.resolver_clause_store.proofs.KeptLemmas.{keeps_undone}
use Rattle.resolvo.specs.Propagators.{IsPropagator}
use Rattle.resolvo.proofs.AttachingLemmas.{lower-undone}
use Rattle.resolver_clause_store.proofs.QueueLemmas.{queued-left}
use Rattle.resolvo.proofs.LoadLemmas.{consistent-given, loaded-clause, same-undone}
use Rattle.resolvo.proofs.WatchedLemmas.{in_lists-added, in_lists-equal, in_lists-kept}
use Rattle.resolvo.proofs.clause_search.ClauseSearch.load_clause.Goals as goal

pub returns-clause-consistent : goal.returns-clause-consistent
returns-clause-consistent c =
    let end : c.len-place.result ≡ length c.args.self.now.table = search rules in
    let table = c.args.self.now.table in
    let longer = c.in_ok-attach.ensures.propagator table c.requires.consistent.propagator in
    let propagates : IsPropagator c.push.new.self c.undo_until.new.self c.cut.new.self =
    rw c.in_ok-push.ensures.items (c.in_ok-cut.ensures.propagator _ _ (lower-undone _ _ _ c.undo_until.ensures) longer) in
    consistent-given c.args.self.now _ c.args.literals.now _ _ _ c.requires.consistent
    c.requires.below end c.in_ok-push.ensures.items c.in_ok-push_given.ensures.added c.in_ok-push-2.ensures.added refl
    c.undo_until.ensures c.level_for-level.ensures.low (c.min-self.ensures ∙ ap (min c.args.self.now.kept) c.len-left.ensures) refl refl propagates
    (queued-left c.args.self.now.queue c.cut-2.new.self c.args.self.now.trail c.undo_until.new.self c.args.self.now.table
    c.args.self.now.requirements.items c.len-left.result (length_of c.undo_until.new.self) c.cut-2.ensures
    (keeps_undone c.args.self.now.trail c.undo_until.new.self c.level_for-level.result c.undo_until.ensures) c.len-left.ensures
    c.requires.consistent.queued)

pub returns-clause-loaded : goal.returns-clause-loaded
returns-clause-loaded c = λ given numbers loaded.
    let first : c.len-number.result ≡ length c.args.self.now.places = search rules in
    let end : c.len-place.result ≡ length c.args.self.now.table = search rules in
    loaded-clause c.args.self.now _ given numbers c.args.literals.now _ _ c.requires.consistent first end
    c.in_ok-push.ensures.items c.in_ok-push_given.ensures.added c.in_ok-push-2.ensures.added refl loaded

pub returns-clause-same : goal.returns-clause-same
returns-clause-same c = same-undone c.args.self.now _ _ c.requires.consistent c.undo_until.ensures c.level_for-level.ensures.low
    (rw (c.in_ok-push.ensures.items, c.in_ok-push-2.ensures.added) (simp length-append (omega arith)))
    (c.min-self.ensures ∙ ap (min c.args.self.now.kept) c.len-left.ensures) refl refl

pub returns-clause-undone : goal.returns-clause-undone
returns-clause-undone c = λ falsified.
    record { level = c.level_for-level.result; below = c.level_for-level.ensures.falsified falsified; undone = c.undo_until.ensures }

pub returns-clause-stays : goal.returns-clause-stays
returns-clause-stays c = λ other.
    record {
      kept = λ v s at. c.undo_until.ensures.kept v s at (c.level_for-level.ensures.otherwise other v s at);
      only = λ v s at. inl (c.undo_until.ensures.stays v s at).0;
    }

pub attach-requires-clause-below : goal.attach-requires-clause-below
attach-requires-clause-below c = c.requires.below

pub attach-requires-clause-lists : goal.attach-requires-clause-lists
attach-requires-clause-lists c = c.requires.consistent.propagator.lists

pub invariant_of-self : goal.invariant_of-self
invariant_of-self c = record { in_lists = in_lists-kept _ _ _ _ c.requires.consistent.propagator c.attach.ensures.kept }

pub invariant_of-self-in-Break-branch-2 : goal.invariant_of-self-in-Break-branch-2
invariant_of-self-in-Break-branch-2 c =
    record {
      in_lists = in_lists-equal _ _ _ _ c.in_err-push.ensures.unchanged refl
          (in_lists-kept _ _ _ _ c.requires.consistent.propagator c.attach.ensures.kept);
    }

pub invariant_of-self-in-Break-branch-3 : goal.invariant_of-self-in-Break-branch-3
invariant_of-self-in-Break-branch-3 c =
    record {
      in_lists = in_lists-equal _ _ _ _ c.in_ok-push.ensures.items refl
          (in_lists-added _ c.args.literals.now _ _ _ c.requires.consistent.propagator c.attach.ensures.kept c.in_ok-attach.ensures.own);
    }

pub invariant_of-self-in-Break-branch-4 : goal.invariant_of-self-in-Break-branch-4
invariant_of-self-in-Break-branch-4 c =
    record {
      in_lists = in_lists-equal _ _ _ _ c.in_ok-push.ensures.items refl
          (in_lists-added _ c.args.literals.now _ _ _ c.requires.consistent.propagator c.attach.ensures.kept c.in_ok-attach.ensures.own);
    }

pub invariant_of-self-in-Break-branch-5 : goal.invariant_of-self-in-Break-branch-5
invariant_of-self-in-Break-branch-5 c =
    record {
      in_lists = in_lists-equal _ _ _ _ c.in_ok-push.ensures.items c.cut.ensures.watches
          (in_lists-added _ c.args.literals.now _ _ _ c.requires.consistent.propagator c.attach.ensures.kept c.in_ok-attach.ensures.own);
    }

pub invariant_of-self-2 : goal.invariant_of-self-2
invariant_of-self-2 c =
    record {
      in_lists = in_lists-equal _ _ _ _ c.in_ok-push.ensures.items c.cut.ensures.watches
          (in_lists-added _ c.args.literals.now _ _ _ c.requires.consistent.propagator c.attach.ensures.kept c.in_ok-attach.ensures.own);
    }
