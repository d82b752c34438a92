use Rattle.std.proofs.Common.{Option, subst, sym}
use Rattle.resolvo.specs.Problems.{AreItems}
use Rattle.resolvo.proofs.rounds.Rounds.given_turns.Goals as goal

pub returns-in_ok-solvable_turns-in-Some : goal.returns-in_ok-solvable_turns-in-Some
returns-in_ok-solvable_turns-in-Some g c =
    record {
      rest = c.in_ok-solvable_turns-in-Some.ensures.rest;
      between = λ root b.
          let w = c.in_ok-solvable_turns-in-Some.ensures.between root b in
          let Items : Option g.row.I.Denot → Type 0 = λ soft. AreItems g.I.Iterator.next_gives soft w.0 in
          (w.0, subst Items (sym c.in-Some.is) w.1, w.2);
      limits = c.solvable_turns.ensures.limits;
      refusal = tt;
    }
