use Rattle.std.proofs.Common.{sym, ◌∙◌}
use Rattle.resolver_clause_store.proofs.WatchListLemmas.{fit-at}
use Rattle.resolvo.proofs.VisitLemmas.{below-contains, makes-true, stands-placed, tested-true, propagates-none}
use Rattle.resolvo.proofs.propagator.Propagator.visit_watcher.Goals as goal

pub value-value-requires : goal.value-value-requires
value-value-requires c =
    below-contains c.args.table.now _ c.args.placed.now.watch.number c.args.placed.now.watch.blocker c.requires.visiting.below
    (fit-at _ _ _ _ _ c.requires.visiting.propagator.watched.fit c.requires.stands).own

pub pass_by-requires-clause-satisfied : goal.pass_by-requires-clause-satisfied
pass_by-requires-clause-satisfied c =
    makes-true c.args.table.now c.args.trail.now c.args.placed.now.watch.number c.args.placed.now.watch.blocker
    (fit-at _ _ _ _ _ c.requires.visiting.propagator.watched.fit c.requires.stands).own
    (tested-true _ _ c.if-eq.ensures c.value-value.ensures)

pub force_binary-requires-clause-own : goal.force_binary-requires-clause-own
force_binary-requires-clause-own c =
    (fit-at _ _ _ _ _ c.requires.visiting.propagator.watched.fit c.requires.stands).own

pub force_binary-requires-clause-two : goal.force_binary-requires-clause-two
force_binary-requires-clause-two c =
    (fit-at _ _ _ _ _ c.requires.visiting.propagator.watched.fit c.requires.stands).two
    (c.is_forced.ensures c.if-is_forced.true).0

pub returns-then-eq-clause-propagates : goal.returns-then-eq-clause-propagates
returns-then-eq-clause-propagates c = propagates-none _ _ c.requires.justified

pub force_binary-requires-clause-free : goal.force_binary-requires-clause-free
force_binary-requires-clause-free c = sym c.value-value.ensures ∙ (c.is_forced.ensures c.if-is_forced.true).1

pub pass_by-requires-clause-stands : goal.pass_by-requires-clause-stands
pass_by-requires-clause-stands c = stands-placed _ c.args.placed.now c.requires.stands
