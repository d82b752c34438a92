use Rattle.std.proofs.Common.{arith, rules}
use Rattle.resolver_clause_store.proofs.LevelLemmas.{level-push}
use Rattle.resolver_clause_store.proofs.SlotLemmas.{placed-push, listed-push, rising-push, counted-push}
use Rattle.resolver_clause_store.proofs.trail.Trail.assign.Goals as goal

pub invariant_of-self : goal.invariant_of-self
invariant_of-self c = record {
  placed = rw c.in_err-push.ensures.items c.args.self.now.placed;
  listed = rw c.in_err-push.ensures.items c.args.self.now.listed;
  rising = c.args.self.now.rising;
  counted = c.args.self.now.counted;
  leveled = rw c.in_err-push.ensures.items c.args.self.now.leveled;
}

pub invariant_of-self-2-clause-placed : goal.invariant_of-self-2-clause-placed
invariant_of-self-2-clause-placed c =
    rw (c.put.ensures, c.index.ensures, c.in_ok-push.ensures.items, c.variable-variable.ensures) (placed-push _ _ _ _ c.args.self.now.placed c.requires.free c.requires.inside (search rules))

pub invariant_of-self-2-clause-listed : goal.invariant_of-self-2-clause-listed
invariant_of-self-2-clause-listed c =
    rw (c.put.ensures, c.index.ensures, c.in_ok-push.ensures.items, c.variable-variable.ensures) (listed-push _ _ _ _ c.args.self.now.listed c.requires.free c.requires.inside (search rules))

pub invariant_of-self-2-clause-rising : goal.invariant_of-self-2-clause-rising
invariant_of-self-2-clause-rising c =
    rw (c.put.ensures, c.index.ensures, c.variable-variable.ensures) (rising-push _ _ _ _ c.args.self.now.rising c.args.self.now.listed c.requires.inside (search rules) (λ v s at.
    omega (arith, c.requires.top v s at, c.in_ok-level.ensures)) (λ d v s at. omega (arith, (c.requires.begins d).0 v s at, c.in_ok-level.ensures)))

pub invariant_of-self-2-clause-counted : goal.invariant_of-self-2-clause-counted
invariant_of-self-2-clause-counted c =
    rw (c.put.ensures, c.index.ensures, c.variable-variable.ensures) (counted-push _ c.args.self.now.order.items _ _ c.args.self.now.counted c.requires.inside (search rules)
    (omega (arith, c.requires.bound, c.in_ok-level.ensures)) (λ d. omega (arith, (c.requires.begins d).1, c.in_ok-level.ensures)))

pub invariant_of-self-2-clause-leveled : goal.invariant_of-self-2-clause-leveled
invariant_of-self-2-clause-leveled c =
    rw (c.put.ensures, c.index.ensures, c.in_ok-push.ensures.items, c.variable-variable.ensures) (level-push _ c.args.self.now.order.items _ _ c.requires.inside)
