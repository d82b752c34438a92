use Rattle.std.proofs.Common.{◌≡◌, [], ◌∷◌, ◌++◌, ◌∙◌, Contains, List, get_or, refl, subst, sym}
use Rattle.std.specs.List.{flat_map}
use Rattle.std.proofs.lemmas.List.Elements.{Contains-get_or}
use Rattle.resolver_clause_store.specs.Candidates.{matching, sorted_candidates}
use Rattle.resolver_clause_store.specs.Lists.{IsWithin, Meets}
use Rattle.resolver_clause_store.specs.SoftRun.{options, own_packages}
use Rattle.resolver_clause_store.specs.declared.SoftRequirement.{SoftRequirement}
use Rattle.resolver_clause_store.specs.declared.SoftRequirement.TheVariants.{Matching}
use Rattle.resolver_clause_store.proofs.RequirementLemmas.{matching_named, sorted_matches}
use Rattle.resolvo.specs.RoundStates.{chosen_of, notes_of}
use Rattle.resolvo.proofs.SoftTurnLemmas.{between_known, between_met, between_tried, gathered_last, sorted_has, standing_for, standing_known}
use Rattle.resolver_clause_store.proofs.ListLemmas.{Contains-here as here}
use Rattle.resolver_encoding.proofs.SoFarLemmas.{lawful_solvables}
use Rattle.resolvo.proofs.RoundLemmas.{rest_known, room_known, room_trans}
use Rattle.resolvo.proofs.rounds.Rounds.version_set_turn.Goals as goal

pub returns-then-has_any : goal.returns-then-has_any
returns-then-has_any g c =
    record {
      rest = rest_known _ _ _ c.in_ok-candidates.ensures.is_true c.requires.rest;
      between = λ root done b.
          let u = g.D.Interner.universe c.args.provider.now in
          let v = c.args.version_set in
          let laws = g.met.D.DependencyProvider.lawful_packages c.args.provider.now in
          let lawful = lawful_solvables u g.S.PartialEq.eq (g.met.D.Interner.lawful_ids c.args.provider.now)
          (g.met.D.Interner.solvables_compare c.args.provider.now) g.met.D.Interner.solvables_are_values in
          let same : c.deref.result.now ≡ sorted_candidates u v = c.deref.ensures.value ∙ c.in_ok-candidates.ensures.value in
          let m : Meets c.deref.result.now c.solvables.result.now.keys = c.if-has_any.ensures in
          let Has : List g.row.S.Denot → Type 0 = λ list. Contains list m.shared in
          between_known u root (done ++ Matching v ∷ []) _ _ (between_met u root done v c.args.self.now
          (record {
            shared = m.shared;
            in_first = sorted_matches u laws lawful.same_solvable v m.shared (subst Has same m.in_first);
            in_second = subst Has c.solvables.ensures m.in_second;
          }) b);
      limits = room_known _ _ _ c.in_ok-candidates.ensures.is_true;
      refusal = tt;
    }

pub take_first-requires-clause-asked : goal.take_first-requires-clause-asked
take_first-requires-clause-asked g c = λ k d below.
    let u = g.D.Interner.universe c.args.provider.now in
    let v = c.args.version_set in
    let laws = g.met.D.DependencyProvider.lawful_packages c.args.provider.now in
    let lawful = lawful_solvables u g.S.PartialEq.eq (g.met.D.Interner.lawful_ids c.args.provider.now)
    (g.met.D.Interner.solvables_compare c.args.provider.now) g.met.D.Interner.solvables_are_values in
    let all = c.deref-2.result.now in
    let same : all ≡ sorted_candidates u v = c.deref-2.ensures.value ∙ c.in_ok-candidates.ensures.value in
    let s = get_or all k d in
    let Has : List g.row.S.Denot → Type 0 = λ list. Contains list s in
    let Asked : g.row.N.Denot → Type 0 = λ n. Contains (notes_of c.ask.new.self).asked n in
    subst Asked (sym (matching_named u laws v s (sorted_matches u laws lawful.same_solvable v s (subst Has same (Contains-get_or all k d below)))))
    (c.in_ok-ask.ensures.asked.alone.asked.all (u.version_set_name v) refl)

pub take_first-requires-clause-none : goal.take_first-requires-clause-none
take_first-requires-clause-none g c = λ m.
    let Has : List g.row.S.Denot → Type 0 = λ list. Contains list m.shared in
    c.if-has_any.ensures (record {
      shared = m.shared;
      in_first = subst Has (c.deref-2.ensures.value ∙ sym c.deref.ensures.value) m.in_first;
      in_second = subst Has (c.in_ok-ask.ensures.asked.chosen ∙ sym c.solvables.ensures) m.in_second;
    })

pub returns : goal.returns
returns g c =
    record {
      rest = c.in_ok-take_first.ensures.rest;
      between = λ root done b.
          let u = g.D.Interner.universe c.args.provider.now in
          let v = c.args.version_set in
          let laws = g.met.D.DependencyProvider.lawful_packages c.args.provider.now in
          let lawful = lawful_solvables u g.S.PartialEq.eq (g.met.D.Interner.lawful_ids c.args.provider.now)
          (g.met.D.Interner.solvables_compare c.args.provider.now) g.met.D.Interner.solvables_are_values in
          let old = c.args.self.now in
          let all = c.deref-2.result.now in
          let same : all ≡ sorted_candidates u v = c.deref-2.ensures.value ∙ c.in_ok-candidates.ensures.value in
          let r : SoftRequirement g.row.S.Denot = Matching v in
          let seeds : List g.row.S.Denot = flat_map (options u) (done ++ r ∷ []) in
          let packages : List g.row.N.Denot = flat_map (own_packages u) (done ++ r ∷ []) in
          let match : IsWithin all (matching u v) = λ s h. let Has : List g.row.S.Denot → Type 0 = λ list. Contains list s in
          sorted_matches u laws lawful.same_solvable v s (subst Has same h) in
          let every : IsWithin (matching u v) all = λ s h. let Has : List g.row.S.Denot → Type 0 = λ list. Contains list s in
          subst Has (sym same) (sorted_has u lawful.same_solvable laws v s h) in
          let own : Contains packages (u.version_set_name v) = gathered_last (own_packages u) done r (u.version_set_name v) (here (u.version_set_name v) []) in
          let never : Meets (matching u v) (chosen_of old) → ⊥ = λ m.
          let Has : List g.row.S.Denot → Type 0 = λ list. Contains list m.shared in
          c.if-has_any.ensures (record {
            shared = m.shared;
            in_first = subst Has (c.deref-2.ensures.value ∙ sym c.deref.ensures.value) (every m.shared m.in_first);
            in_second = subst Has (sym c.solvables.ensures) m.in_second;
          })
          in
          let alone = c.in_ok-ask.ensures.asked.alone in
          between_tried u root done v all old c.ask.new.self c.take_first.new.self _ b never match every c.in_ok-ask.ensures.asked.chosen alone.exempt alone.asked.stays
          (alone.asked.all (u.version_set_name v) refl)
          (c.in_ok-take_first.ensures.turned root b.taken b.refused seeds packages (λ s h. gathered_last (options u) done r s (match s h))
          (c.in_ok-ask.ensures.asked.standing root b.taken b.refused seeds packages own
          (standing_known u root b.taken b.refused seeds packages old _ (standing_for u root done r b.taken b.refused old b.standing))));
      limits = room_trans _ _ _ (room_known _ _ _ c.in_ok-candidates.ensures.is_true)
          (room_trans _ c.ask.new.self _ c.ask.ensures.limits c.take_first.ensures.limits);
      refusal = tt;
    }

pub take_first-requires-clause-rest : goal.take_first-requires-clause-rest
take_first-requires-clause-rest g c = c.in_ok-ask.ensures.rest

pub ask-requires : goal.ask-requires
ask-requires g c = record { rest = rest_known _ _ _ c.in_ok-candidates.ensures.is_true c.requires.rest }
