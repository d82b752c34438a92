use Rattle.std.proofs.Common.{arith, sym, ap, ◌∙◌, ◌≡◌, ℕ, Option, Some}
use Rattle.std.specs.Option.{option_map}
use Rattle.resolver_clause_store.specs.declared.Slot.{Slot}
use Rattle.resolver_clause_store.specs.TrailView.{slot_of}
use Rattle.resolver_clause_store.proofs.SlotLemmas.{slot-within}
use Rattle.resolvo.proofs.LoadLemmas.{propagator-end, propagator-next}
use Rattle.resolvo.proofs.propagator.tests.begin.Goals as goal

pub clauses-init : goal.clauses-init
clauses-init c =
    let grown = c.in_ok-grow.ensures.ok in
    let empty : (v : ℕ) (s : Slot) → slot_of c.grow.new.self v ≡ Some s → ⊥ = λ v s at.
    omega (
      arith,
      c.requires.empty,
      slot-within c.args.trail.now.slots v s.place (ap (λ (o : Option Slot). option_map (λ (slot : Slot). slot.place) o) (sym (grown.slots v) ∙ at)),
    )
    in
    record {
      size = grown.size;
      justified = record {
        within = λ v s n at reason. absurd (empty v s at);
        forced = λ v s n at reason. absurd (empty v s at);
        contains = λ v s n at reason. absurd (empty v s at);
      };
      propagator = c.in_ok-grow-2.ensures.propagator _ c.args.trail.now c.grow.new.self grown (c.empty-propagator.ensures c.args.trail.now c.requires.empty);
    }

pub attach-requires-clause-below : goal.attach-requires-clause-below
attach-requires-clause-below c = rw (c.clause.ensures, c.clauses.invariant.size) (c.requires.below c.clauses.number)

pub attach-requires-clause-lists : goal.attach-requires-clause-lists
attach-requires-clause-lists c = c.clauses.invariant.propagator.lists

pub clauses-preserved : goal.clauses-preserved
clauses-preserved c =
    let before = c.clauses.invariant in
    record {
      size = before.size;
      justified = before.justified;
      propagator = propagator-next _ _ _ _ _ _ (omega (arith, c.clauses-test.true, c.len-number-end.ensures))
          c.clause.ensures c.in_ok-attach.ensures.propagator before.propagator;
    }

pub returns-clause-propagator : goal.returns-clause-propagator
returns-clause-propagator c = propagator-end _ _ _ _ (omega (arith, c.clauses-test.false, c.len-number-end.ensures)) c.clauses.invariant.propagator
