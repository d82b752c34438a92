use Rattle.std.proofs.Common.{◌≡◌, ◌+◌, [], ◌∷◌, ◌++◌, ◌∙◌, List, ap, append-nil, arith, subst, sym, take}
use Rattle.std.proofs.lemmas.List.{append_assoc, take_all, take_more}
use Rattle.resolver_clause_store.specs.declared.SoftRequirement.{SoftRequirement}
use Rattle.resolvo.specs.RoundStates.{IsBetween}
use Rattle.resolvo.proofs.RoundLemmas.{room_same, room_trans}
use Rattle.resolvo.proofs.rounds.Rounds.list_turns.Goals as goal

pub loop-requirement-init : goal.loop-requirement-init
loop-requirement-init g c = record {
  rest = c.requires.rest;
  room = room_same c.args.self.now;
  between = λ root done b.
      let Between : List (SoftRequirement g.row.S.Denot) → Type 0 = λ list. IsBetween (g.D.Interner.universe c.args.provider.now) root list c.args.self.now in
      subst Between (sym (append-nil done)) b;
}

pub loop-requirement-preserved : goal.loop-requirement-preserved
loop-requirement-preserved g c =
    let i = c.loop-requirement.requirement-index in
    let all = c.args.list.now in
    let r = c.requirement-item.result in
    let before = c.loop-requirement.invariant in
    record {
      rest = c.in_ok-soft_turn.ensures.rest;
      room = room_trans c.args.self.now c.loop-requirement.self c.soft_turn.new.self before.room c.soft_turn.ensures.limits;
      between = λ root done b.
          let Between : List (SoftRequirement g.row.S.Denot) → Type 0 =
          λ list. IsBetween (g.D.Interner.universe c.args.provider.now) root list c.soft_turn.new.self in
          let more : take (i + 1) all ≡ take i all ++ r ∷ [] = take_more all i r (omega arith) ∙ ap (λ x. take i all ++ x ∷ []) (sym c.requirement-item.is) in
          let is : (done ++ take i all) ++ r ∷ [] ≡ done ++ take (i + 1) all = append_assoc done (take i all) (r ∷ []) ∙ ap (λ x. done ++ x) (sym more) in
          subst Between is (c.in_ok-soft_turn.ensures.between root (done ++ take i all) (before.between root done b));
    }

pub returns : goal.returns
returns g c =
    record {
      rounds = c.loop-requirement.invariant.rest.rounds;
      between = λ root done b.
          let all = c.args.list.now in
          let Between : List (SoftRequirement g.row.S.Denot) → Type 0 =
          λ list. IsBetween (g.D.Interner.universe c.args.provider.now) root (done ++ list) c.loop-requirement.self in
          subst Between (take_all c.loop-requirement.requirement-index all (omega arith)) (c.loop-requirement.invariant.between root done b);
      limits = c.loop-requirement.invariant.room;
      refusal = tt;
    }

pub returns-in_err-soft_turn-clause-limits : goal.returns-in_err-soft_turn-clause-limits
returns-in_err-soft_turn-clause-limits g c = room_trans _ c.loop-requirement.self _ c.loop-requirement.invariant.room c.soft_turn.ensures.limits
