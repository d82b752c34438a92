use Rattle.std.proofs.Common.{Bool, Contains, List, ◌⊎◌, ◌≡◌, [], ◌∷◌, ◌++◌, ◌+◌, ◌∙◌, ap, false, arith, subst, sym, take}
use Rattle.std.proofs.lemmas.List.{take_more, take_all}
use Rattle.std.proofs.lemmas.List.Elements.{All-contains, Contains-push_cases}
use Rattle.resolver_clause_store.proofs.SetLemmas.{Contains-item}
use Rattle.resolvo.specs.RoundStates.{HasTurned, HaveTurned, notes_of}
use Rattle.resolvo.proofs.RoundLemmas.{room_same, room_trans}
use Rattle.resolvo.proofs.SoftTurnLemmas.{none_tried, tried_last, tried_more}
use Rattle.resolvo.proofs.rounds.Rounds.take_first.Goals as goal

pub loop-candidate-init : goal.loop-candidate-init
loop-candidate-init g c = record {
  rest = c.requires.rest;
  room = room_same c.args.self.now;
  turned = λ root taken refused seeds packages within b. none_tried
      (g.D.Interner.universe c.args.provider.now) root taken seeds packages c.args.self.now refused b;
}

pub returns-then-branch : goal.returns-then-branch
returns-then-branch g c =
    record {
      rest = c.in_ok-turn.ensures.rest;
      turned = λ root taken refused seeds packages within b.
          let u = g.D.Interner.universe c.args.provider.now in
          let s = c.candidate-item.result in
          let mid = c.loop-candidate.self in
          let new = c.turn.new.self in
          let h = c.loop-candidate.invariant.turned root taken refused seeds packages within b in
          let listed = Contains-item c.args.candidates.now c.loop-candidate.candidate-index s (omega arith) c.candidate-item.is in
          let asked = All-contains (λ t. Contains (notes_of c.args.self.now).asked (u.name t)) c.args.candidates.now s c.requires.asked listed in
          let Turned : Bool → Type 0 = λ on. HasTurned u root h.taken_now h.refused_now seeds packages s mid new on in
          tried_last u root taken seeds packages c.args.self.now
          (take c.loop-candidate.candidate-index c.args.candidates.now) mid new s h asked c.args.candidates.now listed c.requires.none
          (subst Turned c.if-branch.true (c.in_ok-turn.ensures.turned root h.taken_now h.refused_now seeds packages (within s listed) h.standing));
      limits = room_trans c.args.self.now c.loop-candidate.self c.turn.new.self c.loop-candidate.invariant.room c.turn.ensures.limits;
      refusal = tt;
    }

pub loop-candidate-preserved : goal.loop-candidate-preserved
loop-candidate-preserved g c =
    let u = g.D.Interner.universe c.args.provider.now in
    let s = c.candidate-item.result in
    let mid = c.loop-candidate.self in
    let new = c.turn.new.self in
    let i = c.loop-candidate.candidate-index in
    let all = c.args.candidates.now in
    let before = c.loop-candidate.invariant in
    record {
      rest = c.in_ok-turn.ensures.rest;
      room = room_trans c.args.self.now mid new before.room c.turn.ensures.limits;
      turned = λ root taken refused seeds packages within b.
          let h = before.turned root taken refused seeds packages within b in
          let listed = Contains-item all i s (omega arith) c.candidate-item.is in
          let asked = All-contains (λ t. Contains (notes_of c.args.self.now).asked (u.name t)) all s c.requires.asked listed in
          let Turned : Bool → Type 0 = λ on. HasTurned u root h.taken_now h.refused_now seeds packages s mid new on in
          let Cases : List g.row.S.Denot → Type 0 = λ list. (t : g.row.S.Denot) → Contains list t → Contains (take i all) t ⊎ (s ≡ t) in
          let more : take (i + 1) all ≡ take i all ++ s ∷ [] = take_more all i s (omega arith) ∙ ap (λ x. take i all ++ x ∷ []) (sym c.candidate-item.is) in
          tried_more u root taken seeds packages c.args.self.now (take i all) mid new s h asked (take (i + 1) all)
          (subst Cases (sym more) (λ t k. Contains-push_cases (take i all) s t k))
          (subst Turned c.if-branch.false (c.in_ok-turn.ensures.turned root h.taken_now h.refused_now seeds packages (within s listed) h.standing));
    }

pub returns : goal.returns
returns g c =
    record {
      rest = c.loop-candidate.invariant.rest;
      turned = λ root taken refused seeds packages within b.
          let u = g.D.Interner.universe c.args.provider.now in
          let all = c.args.candidates.now in
          let Turned : List g.row.S.Denot → Type 0 = λ list. HaveTurned u root taken seeds packages list c.args.self.now c.loop-candidate.self false in
          subst Turned (take_all c.loop-candidate.candidate-index all (omega arith)) (c.loop-candidate.invariant.turned root taken refused seeds packages within b);
      limits = c.loop-candidate.invariant.room;
      refusal = tt;
    }
