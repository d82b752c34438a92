use Rattle.std.proofs.Common.{[], ◌∷◌, List, subst, sym}
use Rattle.std.specs.Prelude.{map}
use Rattle.std.proofs.lemmas.List.{map-append}
use Rattle.resolver_clause_store.specs.declared.SoftRequirement.{SoftRequirement}
use Rattle.resolver_clause_store.specs.declared.SoftRequirement.TheVariants.{Solvable}
use Rattle.resolvo.specs.RoundStates.{IsBetween}
use Rattle.resolvo.proofs.RoundLemmas.{room_same, room_trans}
use Rattle.resolvo.proofs.SoftTurnLemmas.{gives_all}
use Rattle.resolvo.proofs.rounds.Rounds.solvable_turns.Goals as goal

pub returns : goal.returns
returns g c =
    record {
      rest = c.loop-solvable.invariant.rest;
      between = λ root b. (
        c.loop-solvable.yielded,
        gives_all g.I.Iterator.next_gives c.args.soft c.into_iter-solvable-iterator.result _ c.into_iter-solvable-iterator.ensures.into_iter_gives
            c.loop-solvable.yielded c.loop-solvable.yielded_by c.next.result _ c.in-None.is c.next.ensures.steps,
        c.loop-solvable.invariant.between root b,
      );
      limits = c.loop-solvable.invariant.room;
      refusal = tt;
    }

pub loop-solvable-preserved : goal.loop-solvable-preserved
loop-solvable-preserved g c =
    let before = c.loop-solvable.invariant in
    let s = c.in-Some.solvable in
    record {
      rest = c.in_ok-soft_turn.ensures.rest;
      room = room_trans c.args.self.now c.loop-solvable.self c.soft_turn.new.self before.room c.soft_turn.ensures.limits;
      between = λ root b.
          let Between : List (SoftRequirement g.row.S.Denot) → Type 0 =
          λ list. IsBetween (g.D.Interner.universe c.args.provider.now) root list c.soft_turn.new.self in
          subst Between (sym (map-append Solvable c.loop-solvable.yielded (s ∷ [])))
          (c.in_ok-soft_turn.ensures.between root (map Solvable c.loop-solvable.yielded) (before.between root b));
    }

pub loop-solvable-init : goal.loop-solvable-init
loop-solvable-init g c = record {
  rest = c.requires.rest;
  room = room_same c.args.self.now;
  between = λ root b. b;
}

pub soft_turn-requires : goal.soft_turn-requires
soft_turn-requires g c = record { rest = c.loop-solvable.invariant.rest }
