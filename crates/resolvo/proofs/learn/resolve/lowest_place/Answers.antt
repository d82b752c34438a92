use Rattle.std.proofs.Common.{rules, ◌≤◌, ◌≡◌, Some}
use Rattle.resolver_clause_store.specs.Literals.{Literal}
use Rattle.resolver_clause_store.specs.declared.Slot.{Slot}
use Rattle.resolver_clause_store.specs.TrailView.{slot_of}
use Rattle.resolver_clause_store.proofs.SetLemmas.{All-done}
use Rattle.resolvo.specs.Resolvents.{IsNotBefore}
use Rattle.resolvo.proofs.LevelLemmas.{lowest-next}
use Rattle.resolvo.proofs.learn.resolve.lowest_place.Goals as goal

pub literals-preserved : goal.literals-preserved
literals-preserved c = lowest-next _ _ _ _ _ c.literal-item.result _ _ c.literals-test.true c.literals.invariant c.lower_place-lowest.ensures.low
    (rw (c.variable.ensures, c.literal-item.is) at c.lower_place-lowest.ensures.least)
    (rw (c.variable.ensures, c.literal-item.is) at c.lower_place-lowest.ensures.reached)

pub returns-clause-least : goal.returns-clause-least
returns-clause-least c = All-done (λ (literal : Literal). IsNotBefore c.args.trail.now c.args.level c.literals.lowest literal.variable) _
    c.literals.literal-index (search rules) c.literals.invariant.least
