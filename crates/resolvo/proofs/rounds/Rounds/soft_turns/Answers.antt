use Rattle.std.specs.Prelude.{map}
use Rattle.resolver_clause_store.specs.declared.SoftRequirement.TheVariants.{Solvable}
use Rattle.resolvo.proofs.RoundLemmas.{room_trans}
use Rattle.resolvo.proofs.rounds.Rounds.soft_turns.Goals as goal

pub returns : goal.returns
returns g c =
    record {
      rounds = c.in_ok-list_turns.ensures.rounds;
      between = λ root b.
          let w = c.in_ok-given_turns.ensures.between root b in
          (w.0, w.1, c.in_ok-list_turns.ensures.between root (map Solvable w.0) w.2);
      limits = room_trans c.args.self.now c.given_turns.new.self c.list_turns.new.self c.given_turns.ensures.limits c.list_turns.ensures.limits;
      refusal = tt;
    }

pub given_turns-requires-clause-can_next : goal.given_turns-requires-clause-can_next
given_turns-requires-clause-can_next g c = c.requires.can_next

pub given_turns-requires-clause-ends : goal.given_turns-requires-clause-ends
given_turns-requires-clause-ends g c = c.requires.ends

pub list_turns-requires : goal.list_turns-requires
list_turns-requires g c = record { rest = c.in_ok-given_turns.ensures.rest }

pub returns-in_err-list_turns-clause-limits : goal.returns-in_err-list_turns-clause-limits
returns-in_err-list_turns-clause-limits g c = room_trans _ c.given_turns.new.self _ c.given_turns.ensures.limits c.list_turns.ensures.limits
