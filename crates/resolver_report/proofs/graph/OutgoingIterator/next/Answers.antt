use Rattle.std.proofs.Common.{◌∙◌, ap, arith, length, sym}
use Rattle.resolver_report.proofs.EdgePlaceLemmas.{left_none, left_some}
use Rattle.resolver_report.proofs.graph.OutgoingIterator.next.Goals as goal

pub returns-in-Some-found-clause-steps : goal.returns-in-Some-found-clause-steps
returns-in-Some-found-clause-steps g c = sym c.loop-last.invariant ∙
    left_some c.loop-last.self.edges.now c.loop-last.self.rest.now c.in-Some.before.now c.in-Some.last.now c.in-Some-found.edge.now c.in-Some.ensures.cases.0
    (sym c.in-Some-found.ensures)

pub returns-in-Some-found-clause-goes : goal.returns-in-Some-found-clause-goes
returns-in-Some-found-clause-goes g c =
    let steps = sym c.loop-last.invariant ∙
    left_some c.loop-last.self.edges.now c.loop-last.self.rest.now c.in-Some.before.now c.in-Some.last.now c.in-Some-found.edge.now
    c.in-Some.ensures.cases.0 (sym c.in-Some-found.ensures) in
    record { on = λ h. (tt, tt, omega (arith, ap length steps)); keeps = tt; rests = λ h. tt }

pub loop-last-preserved : goal.loop-last-preserved
loop-last-preserved g c = sym (left_none c.loop-last.self.edges.now c.loop-last.self.rest.now c.in-Some.before.now c.in-Some.last.now c.in-Some.ensures.cases.0
    (sym c.in_default-found.ensures)) ∙ c.loop-last.invariant
