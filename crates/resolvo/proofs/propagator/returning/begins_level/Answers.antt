use Rattle.std.proofs.Common.{ap, sym, ◌∙◌}
use Rattle.resolver_clause_store.specs.declared.Reason.{Reason}
use Rattle.resolver_clause_store.specs.Slots.{is_decided}
use Rattle.resolvo.proofs.ReturningLemmas.{begins-decided}
use Rattle.resolvo.proofs.propagator.returning.begins_level.Goals as goal

pub returns-in-Decided : goal.returns-in-Decided
returns-in-Decided c = λ _. begins-decided c.args.trail.now c.args.place c.variable_at.result c.in-Some.slot c.variable_at.ensures.value
    c.variable_at.ensures.placed (sym c.slot.ensures ∙ c.in-Some.is) (ap (λ (r : Reason). is_decided r) c.in-Decided.is)

pub returns-in-Assumed : goal.returns-in-Assumed
returns-in-Assumed c = λ _. begins-decided c.args.trail.now c.args.place c.variable_at.result c.in-Some.slot c.variable_at.ensures.value
    c.variable_at.ensures.placed (sym c.slot.ensures ∙ c.in-Some.is) (ap (λ (r : Reason). is_decided r) c.in-Assumed.is)
