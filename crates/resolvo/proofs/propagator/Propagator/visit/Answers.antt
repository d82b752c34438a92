use Rattle.std.proofs.Common.{arith, ◌+◌, ◌∙◌, ap, refl}
use Rattle.resolvo.proofs.VisitLemmas.{blockers-below, propagates-none, propagates-trans, visited}
use Rattle.resolver_clause_store.proofs.WatchListLemmas.{watching-stands}
use Rattle.resolvo.proofs.propagator.Propagator.visit.Goals as goal

pub watchers-init : goal.watchers-init
watchers-init c = record {
  visiting = record {
    below = c.requires.below;
    propagator = c.requires.propagator;
    attached = c.requires.attached;
    fails = c.false_literal-falsified.ensures.fails;
    excused = record { each = λ place watch before is. absurd (omega (arith, before)) };
  };
  within = omega arith;
  head = refl;
  propagates = propagates-none _ _ c.requires.justified;
}

pub next_watcher-requires-clause-below : goal.next_watcher-requires-clause-below
next_watcher-requires-clause-below c = blockers-below c.args.table.now _ _ _ c.watchers.invariant.visiting.below c.watchers.invariant.visiting.propagator

pub next_watcher-requires-clause-from : goal.next_watcher-requires-clause-from
next_watcher-requires-clause-from c = c.watchers.invariant.within

pub returns : goal.returns
returns c =
    record {
      conflict = tt;
      head = ap (λ n. n + 1) c.watchers.invariant.head;
      propagator = visited _ _ _ _ _ (c.in_default.ensures.visiting c.args.table.now c.watchers.invariant.visiting) (omega arith) (λ number watching.
          let s = watching-stands _ _ number _ c.watchers.self.watches.watched watching in
          (s.0, record { watch = s.1; is = s.2; named = s.3 }));
      attached = record { all = c.watchers.invariant.visiting.attached.all; none = c.watchers.invariant.visiting.attached.none };
      refused = tt;
      propagates = c.watchers.invariant.propagates;
    }

pub returns-in-Conflict : goal.returns-in-Conflict
returns-in-Conflict c =
    record {
      conflict = (rw c.in-Conflict.is at c.in_ok-next.ensures.outcome).conflict;
      head = tt;
      propagator = (rw c.in-Conflict.is at c.in_ok-next.ensures.outcome).propagator;
      attached = (rw c.in-Conflict.is at c.in_ok-next.ensures.outcome).attached;
      refused = tt;
      propagates = propagates-trans _ _ _ _ c.watchers.invariant.propagates c.visit_watcher.ensures.propagates;
    }

pub watchers-preserved : goal.watchers-preserved
watchers-preserved c =
    let goes = rw c.in-Next.is at c.in_ok-next.ensures.outcome in
    record {
      visiting = goes.visiting;
      within = goes.within;
      head = goes.head ∙ c.watchers.invariant.head;
      propagates = propagates-trans _ _ _ _ c.watchers.invariant.propagates c.visit_watcher.ensures.propagates;
    }

pub watchers-smaller : goal.watchers-smaller
watchers-smaller c =
    let goes = rw c.in-Next.is at c.in_ok-next.ensures.outcome in
    omega (arith, goes.fewer, c.in-Some.ensures.above)
