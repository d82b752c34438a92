use Rattle.std.proofs.Common.{arith, refl, ap, ◌+◌, ◌∙◌, length, false}
use Rattle.std.proofs.lemmas.List.{length-replicate}
use Rattle.resolvo.proofs.MinimalLemmas.{underway_done}
use Rattle.resolvo.proofs.RotationLemmas.{needed_none}
use Rattle.resolvo.proofs.minimal.take_turns.Goals as goal

pub loop-turn-init : goal.loop-turn-init
loop-turn-init g c =
    let made = c.in_ok-turns.ensures in
    let turns = c.in_ok-turns.turns in (
      record {
        underway = rw (made.kept, made.core) c.requires.underway;
        size = ap length made.needed ∙ length-replicate _ false;
        needed = needed_none c.args.form.now turns.kept.items turns.needed.items _ made.needed;
      },
      rw made.kept refl,
    )

pub returns-clause-left : goal.returns-clause-left
returns-clause-left g c = underway_done c.args.rules.now c.loop-turn.turns.kept.items c.loop-turn.turns.core.items
    (omega arith) c.loop-turn.invariant.0.underway

pub loop-turn-preserved : goal.loop-turn-preserved
loop-turn-preserved g c = (c.in_ok-take_turn.ensures.underway, c.in_ok-take_turn.ensures.next ∙ ap (λ k. k + 1) c.loop-turn.invariant.1)

pub take_turn-requires-clause-names : goal.take_turn-requires-clause-names
take_turn-requires-clause-names g c = c.requires.names

pub take_turn-requires-clause-solvables : goal.take_turn-requires-clause-solvables
take_turn-requires-clause-solvables g c = c.requires.solvables

pub take_turn-requires-clause-form : goal.take_turn-requires-clause-form
take_turn-requires-clause-form g c = c.requires.form

pub take_turn-requires-clause-underway : goal.take_turn-requires-clause-underway
take_turn-requires-clause-underway g c = c.loop-turn.invariant.0
