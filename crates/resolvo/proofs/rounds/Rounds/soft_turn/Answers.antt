use Rattle.std.proofs.Common.{[], ◌∷◌, ◌++◌, subst, sym}
use Rattle.std.specs.List.{flat_map}
use Rattle.resolver_clause_store.specs.SoftRun.{options, own_packages}
use Rattle.resolver_clause_store.specs.declared.SoftRequirement.{SoftRequirement}
use Rattle.resolver_clause_store.specs.declared.SoftRequirement.TheVariants.{Solvable}
use Rattle.resolvo.specs.RoundStates.{IsBetween}
use Rattle.resolvo.proofs.SoftTurnLemmas.{between_solvable, gathered_last, standing_for}
use Rattle.resolver_clause_store.proofs.ListLemmas.{Contains-here as here}
use Rattle.resolvo.proofs.rounds.Rounds.soft_turn.Goals as goal

pub returns-in_ok-turn-in-Solvable : goal.returns-in_ok-turn-in-Solvable
returns-in_ok-turn-in-Solvable g c =
    record {
      rest = c.in_ok-turn-in-Solvable.ensures.rest;
      between = λ root done b.
          let u = g.D.Interner.universe c.args.provider.now in
          let s = c.in-Solvable.solvable in
          let r : SoftRequirement g.row.S.Denot = Solvable s in
          let Between : SoftRequirement g.row.S.Denot → Type 0 = λ q. IsBetween u root (done ++ q ∷ []) c.turn.new.self in
          subst Between (sym c.in-Solvable.is) (between_solvable u root done s c.args.self.now c.turn.new.self _ b
          (c.in_ok-turn-in-Solvable.ensures.turned root b.taken b.refused (flat_map (options u) (done ++ r ∷ [])) (flat_map (own_packages u) (done ++ r ∷ []))
          (gathered_last (options u) done r s (here s [])) (standing_for u root done r b.taken b.refused c.args.self.now b.standing)));
      limits = c.turn.ensures.limits;
      refusal = tt;
    }

pub returns-in_ok-version_set_turn-in-Matching : goal.returns-in_ok-version_set_turn-in-Matching
returns-in_ok-version_set_turn-in-Matching g c =
    record {
      rest = c.in_ok-version_set_turn-in-Matching.ensures.rest;
      between = λ root done b.
          let u = g.D.Interner.universe c.args.provider.now in
          let Between : SoftRequirement g.row.S.Denot → Type 0 = λ q. IsBetween u root (done ++ q ∷ []) c.version_set_turn.new.self in
          subst Between (sym c.in-Matching.is) (c.in_ok-version_set_turn-in-Matching.ensures.between root done b);
      limits = c.version_set_turn.ensures.limits;
      refusal = tt;
    }
