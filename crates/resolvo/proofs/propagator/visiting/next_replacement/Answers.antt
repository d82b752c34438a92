use Rattle.std.proofs.Common.{rules, length, ◌≤◌}
use Rattle.resolvo.proofs.ReplacementLemmas.{found-before, replaces-after}
use Rattle.resolvo.proofs.propagator.visiting.next_replacement.Goals as goal

pub returns-in-Some : goal.returns-in-Some
returns-in-Some c =
    let within : c.min-start.result ≤ length c.args.literals.now = search rules in
    replaces-after c.args.trail.now c.args.literals.now c.args.other.now c.min-start.result within c.in-Some.place (rw c.split_at.ensures.back at c.in-Some.ensures)

pub returns-in-None : goal.returns-in-None
returns-in-None c =
    let within : c.min-start.result ≤ length c.args.literals.now = search rules in
    found-before c.args.trail.now c.args.literals.now c.args.other.now c.min-start.result within c.first_replacement-in-None.result
    (rw c.split_at.ensures.back at c.in-None.ensures) (rw c.split_at.ensures.front at c.first_replacement-in-None.ensures)
