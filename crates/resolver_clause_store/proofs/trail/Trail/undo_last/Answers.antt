use Rattle.std.proofs.Common.{rules}
use Rattle.resolver_clause_store.proofs.SlotLemmas.{placed-pop, listed-pop, rising-pop, counted-pop, kept-pop, stays-pop}
use Rattle.resolver_clause_store.proofs.trail.Trail.undo_last.Goals as goal

pub invariant_of-self-clause-placed : goal.invariant_of-self-clause-placed
invariant_of-self-clause-placed c = rw (c.clear.ensures, c.index.ensures) (placed-pop _ _ _ _ c.args.self.now.placed c.in-Some.ensures.items)

pub invariant_of-self-clause-listed : goal.invariant_of-self-clause-listed
invariant_of-self-clause-listed c = rw (c.clear.ensures, c.index.ensures) (listed-pop _ _ _ _ c.args.self.now.placed c.args.self.now.listed c.in-Some.ensures.items)

pub invariant_of-self-clause-rising : goal.invariant_of-self-clause-rising
invariant_of-self-clause-rising c = rw (c.clear.ensures, c.index.ensures) (rising-pop _ _ _ _ c.args.self.now.placed c.in-Some.ensures.items c.args.self.now.rising)

pub invariant_of-self-clause-counted : goal.invariant_of-self-clause-counted
invariant_of-self-clause-counted c = rw (c.clear.ensures, c.index.ensures) (counted-pop _ _ _ _ c.args.self.now.placed c.in-Some.ensures.items c.args.self.now.counted)

pub returns-in-Some : goal.returns-in-Some
returns-in-Some c = record {
  size = search rules;
  length = search rules;
  kept = λ variable slot at early. rw (c.clear.ensures, c.index.ensures) (kept-pop _ _ _ _ c.args.self.now.placed c.in-Some.ensures.items variable slot at (search rules));
  stays = λ variable slot at. stays-pop _ _ _ _ c.args.self.now.placed c.in-Some.ensures.items variable slot (rw (c.clear.ensures, c.index.ensures) at at);
}

pub last_level-self-requires-clause-listed : goal.last_level-self-requires-clause-listed
last_level-self-requires-clause-listed c =
    rw (c.clear.ensures, c.index.ensures, c.deref.ensures.value) (listed-pop _ _ _ _ c.args.self.now.placed c.args.self.now.listed c.in-Some.ensures.items)

pub last_level-self-requires-clause-placed : goal.last_level-self-requires-clause-placed
last_level-self-requires-clause-placed c =
    rw (c.clear.ensures, c.index.ensures, c.deref.ensures.value) (placed-pop _ _ _ _ c.args.self.now.placed c.in-Some.ensures.items)

pub invariant_of-self-clause-leveled : goal.invariant_of-self-clause-leveled
invariant_of-self-clause-leveled c = rw c.deref.ensures.value at c.last_level-self.ensures
