use Rattle.std.proofs.Common.{rules}
use Rattle.resolver_clause_store.proofs.QueueLemmas.{all-met}
use Rattle.resolver_clause_store.proofs.queue.DecideQueue.next.Goals as goal

pub active-init : goal.active-init
active-init c = record {
  queued = c.in_ok-follow.ensures.queued c.args.table.now c.args.requirements.now c.requires.queued;
  followed = c.in_ok-follow.ensures.followed;
}

pub returns-clause-none : goal.returns-clause-none
returns-clause-none c = all-met c.active.self c.args.trail.now c.args.table.now c.args.requirements.now
    (search rules) c.active.invariant.followed c.active.invariant.queued
