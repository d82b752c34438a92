use Rattle.std.proofs.Common.{ap, arith, Some, subst, sym, ◌<◌, ◌∙◌, ◌≡◌, refl}
use Rattle.std.specs.Prelude.{Contains, length, slice_get}
use Rattle.std.proofs.lemmas.Option.{slice_get_within}
use Rattle.resolver_clause_store.specs.TrailView.{slot_of, variable_count}
use Rattle.resolver_clause_store.specs.declared.Origin.TheVariants.{Solvable as SolvableOrigin}
use Rattle.resolver_clause_store.specs.declared.Trail.{Trail}
use Rattle.resolver_encoding.specs.Notes.{notes_in}
use Rattle.resolver_encoding.specs.Trails.{chosen_in}
use Rattle.resolver_encoding.specs.declared.encoding.Encoding.{Encoding}
use Rattle.resolvo.specs.RoundStates.{notes_of}
use Rattle.resolvo.proofs.SoftLemmas.{rounds_added, skipped, standing_loaded, standing_registered, still_added, turned_from}
use Rattle.resolver_encoding.proofs.SoFarLemmas.{lawful_solvables}
use Rattle.resolver_encoding.proofs.RoomLemmas.{KeepsTrue-of}
use Rattle.resolvo.proofs.RoundLemmas.{room_of, room_trans}
use Rattle.resolvo.proofs.rounds.Rounds.turn.Goals as goal

pub load-requires : goal.load-requires
load-requires g c =
    let u = g.D.Interner.universe c.args.provider.now in
    let old = c.args.self.now in
    record {
      rounds = rounds_added u old c.register.new.self c.requires.rest.rounds
          ((KeepsTrue-of {u = u} _ _ c.register.ensures.limits).answers c.requires.rest.rounds.answers)
          c.in_ok-variable.ensures.registered.adds;
    }

pub slot-requires : goal.slot-requires
slot-requires g c =
    let inside : c.in_ok-variable.variable < length (notes_in c.register.new.self).origins =
    slice_get_within (notes_in c.register.new.self).origins c.in_ok-variable.variable (SolvableOrigin c.args.solvable) c.in_ok-variable.ensures.variable in
    let up = c.in_ok-load.ensures.loaded in
    let Origins : Encoding g.row.N.Denot g.row.S.Denot → Type 0 = λ e. c.in_ok-variable.variable < length (notes_in e).origins in
    let now : c.in_ok-variable.variable < length (notes_of c.load.new.self).origins = subst Origins (sym c.in_ok-load.ensures.same.encoding) inside in
    let Count : Trail → Type 0 = λ t. c.in_ok-variable.variable < variable_count t in
    subst Count (sym c.trail.ensures) (omega (arith, now, up.variables))

pub attempt-requires-clause-rest : goal.attempt-requires-clause-rest
attempt-requires-clause-rest g c = record {
  rounds = c.in_ok-load.ensures.rounds;
  still = c.in_ok-load.ensures.still
      (still_added (g.D.Interner.universe c.args.provider.now) c.args.self.now c.register.new.self c.requires.rest.rounds
      c.in_ok-variable.ensures.registered.adds.origins c.requires.rest.still);
}

pub returns-in-Some : goal.returns-in-Some
returns-in-Some g c =
    record {
      rest = record {
        rounds = c.in_ok-load.ensures.rounds;
        still = c.in_ok-load.ensures.still
            (still_added (g.D.Interner.universe c.args.provider.now) c.args.self.now c.register.new.self c.requires.rest.rounds
            c.in_ok-variable.ensures.registered.adds.origins c.requires.rest.still);
      };
      turned = λ root taken refused seeds packages seed b.
          let u = g.D.Interner.universe c.args.provider.now in
          let s = c.args.solvable in
          let old = c.args.self.now in
          let e = c.register.new.self in
          let new = c.load.new.self in
          let registered = c.in_ok-variable.ensures.registered in
          let same = c.in_ok-load.ensures.same in
          let loaded = standing_loaded u root taken refused seeds packages (record old { encoding = e }) new
          (rounds_added u old e c.requires.rest.rounds
          ((KeepsTrue-of {u = u} _ _ c.register.ensures.limits).answers c.requires.rest.rounds.answers) registered.adds).variables same c.in_ok-load.ensures.turn
          (standing_registered u root taken refused seeds packages old e c.requires.rest.rounds registered.adds registered.exempt b s seed registered.only registered.asked) in
          let Stands : Encoding g.row.N.Denot g.row.S.Denot → Type 0 = λ x. slice_get (notes_in x).origins c.in_ok-variable.variable ≡ Some (SolvableOrigin s) in
          let At : Trail → Type 0 = λ t. slot_of t c.in_ok-variable.variable ≡ Some c.in-Some.slot in
          turned_from u root taken refused seeds packages s old new new c.in-Some.slot.value (ap chosen_in same.chosen)
          (ap (λ x. (notes_in x).exempt) same.encoding ∙ registered.exempt) (ap (λ x. (notes_in x).asked) same.encoding ∙ registered.asked)
          (skipped u (lawful_solvables u g.S.PartialEq.eq (g.met.D.Interner.lawful_ids c.args.provider.now)
          (g.met.D.Interner.solvables_compare c.args.provider.now) g.met.D.Interner.solvables_are_values) g.N.PartialEq.eq g.met.D.Interner.names_are_values root
          taken refused seeds packages s c.in_ok-variable.variable c.in-Some.slot new c.in_ok-load.ensures.rounds c.in_ok-load.ensures.loaded.variables
          (c.in_ok-load.ensures.still (still_added u old e c.requires.rest.rounds registered.adds.origins c.requires.rest.still))
          (subst Stands (sym same.encoding) c.in_ok-variable.ensures.variable)
          (subst At c.trail.ensures (sym c.slot.ensures ∙ c.in-Some.is)) loaded);
      limits = room_trans c.args.self.now (record c.args.self.now { encoding = c.register.new.self }) c.load.new.self
          (room_of _ _ (KeepsTrue-of _ _ c.register.ensures.limits) refl refl) c.load.ensures.limits;
      refusal = tt;
    }

pub returns-in_ok-is_chosen-in-None : goal.returns-in_ok-is_chosen-in-None
returns-in_ok-is_chosen-in-None g c =
    record {
      rest = c.in_ok-is_chosen-in-None.ensures.rest;
      turned = λ root taken refused seeds packages seed b.
          let u = g.D.Interner.universe c.args.provider.now in
          let s = c.args.solvable in
          let old = c.args.self.now in
          let e = c.register.new.self in
          let mid = c.load.new.self in
          let registered = c.in_ok-variable.ensures.registered in
          let same = c.in_ok-load.ensures.same in
          let loaded = standing_loaded u root taken refused seeds packages (record old { encoding = e }) mid
          (rounds_added u old e c.requires.rest.rounds
          ((KeepsTrue-of {u = u} _ _ c.register.ensures.limits).answers c.requires.rest.rounds.answers) registered.adds).variables same c.in_ok-load.ensures.turn
          (standing_registered u root taken refused seeds packages old e c.requires.rest.rounds registered.adds registered.exempt b s seed registered.only registered.asked) in
          let Seen : Encoding g.row.N.Denot g.row.S.Denot → Type 0 = λ x. Contains (notes_in x).seen s in
          turned_from u root taken refused seeds packages s old mid _ _ (ap chosen_in same.chosen) (ap (λ x. (notes_in x).exempt) same.encoding ∙ registered.exempt)
          (ap (λ x. (notes_in x).asked) same.encoding ∙ registered.asked)
          (c.in_ok-is_chosen-in-None.ensures.turned (subst Seen (sym same.encoding) registered.here) root taken refused seeds packages seed loaded);
      limits = room_trans c.args.self.now c.load.new.self c.attempt.new.self
          (room_trans c.args.self.now (record c.args.self.now { encoding = c.register.new.self }) c.load.new.self
          (room_of _ _ (KeepsTrue-of _ _ c.register.ensures.limits) refl refl) c.load.ensures.limits) c.attempt.ensures.limits;
      refusal = tt;
    }

pub attempt-requires-clause-free : goal.attempt-requires-clause-free
attempt-requires-clause-free g c = rw c.trail.ensures at (sym c.slot.ensures ∙ c.in-None.is)

pub attempt-requires-clause-stands : goal.attempt-requires-clause-stands
attempt-requires-clause-stands g c =
    let Stands : Encoding g.row.N.Denot g.row.S.Denot → Type 0 =
    λ e. slice_get (notes_in e).origins c.in_ok-variable.variable ≡ Some (SolvableOrigin c.args.solvable) in
    subst Stands (sym c.in_ok-load.ensures.same.encoding) c.in_ok-variable.ensures.variable
