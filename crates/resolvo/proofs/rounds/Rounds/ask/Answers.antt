use Rattle.std.proofs.Common.{ap, subst, sym, Contains, refl}
use Rattle.resolver_encoding.specs.Notes.{notes_in}
use Rattle.resolver_encoding.specs.Trails.{chosen_in}
use Rattle.resolver_encoding.specs.Turns.{AsksOnly}
use Rattle.resolver_encoding.specs.declared.encoding.Encoding.{Encoding}
use Rattle.resolvo.specs.RoundStates.{notes_of}
use Rattle.resolvo.proofs.SoftLemmas.{rounds_added, standing_asked, standing_loaded, still_added}
use Rattle.resolvo.proofs.RoundLemmas.{room_of, room_trans}
use Rattle.resolvo.proofs.rounds.Rounds.ask.Goals as goal

pub load-requires : goal.load-requires
load-requires g c =
    let u = g.D.Interner.universe c.args.provider.now in
    let old = c.args.self.now in
    record {
      rounds = rounds_added u old c.ask.new.self c.requires.rest.rounds (c.ask.ensures.limits.answers c.requires.rest.rounds.answers)
          c.in_ok-ask.ensures.alone.adds;
    }

pub returns : goal.returns
returns g c =
    record {
      rest = record {
        rounds = c.in_ok-load.ensures.rounds;
        still = c.in_ok-load.ensures.still
            (still_added (g.D.Interner.universe c.args.provider.now) c.args.self.now c.ask.new.self c.requires.rest.rounds
            c.in_ok-ask.ensures.alone.adds.origins c.requires.rest.still);
      };
      asked = let u = g.D.Interner.universe c.args.provider.now in
          let old = c.args.self.now in
          let e = c.ask.new.self in
          let n = c.version_set_name-name.result in
          let alone = c.in_ok-ask.ensures.alone in
          let Alone : Encoding g.row.N.Denot g.row.S.Denot → Type 0 = λ x. AsksOnly u n (notes_of old) (notes_in x) in
          let Named : g.row.N.Denot → Type 0 = λ m. AsksOnly u m (notes_of old) (notes_of c.load.new.self) in
          record {
            chosen = ap chosen_in c.in_ok-load.ensures.same.chosen;
            alone = subst Named c.version_set_name-name.ensures (subst Alone (sym c.in_ok-load.ensures.same.encoding) alone);
            standing = λ root taken refused seeds packages own b.
                let Own : g.row.N.Denot → Type 0 = λ m. Contains packages m in
                standing_loaded u root taken refused seeds packages (record old { encoding = e }) c.load.new.self
                (rounds_added u old e c.requires.rest.rounds (c.ask.ensures.limits.answers c.requires.rest.rounds.answers) alone.adds).variables c.in_ok-load.ensures.same c.in_ok-load.ensures.turn
                (standing_asked u root taken refused seeds packages old e c.requires.rest.rounds alone.adds alone.exempt b n
                (subst Own (sym c.version_set_name-name.ensures) own) alone);
          };
      limits = room_trans c.args.self.now (record c.args.self.now { encoding = c.ask.new.self }) c.load.new.self (room_of _ _ c.ask.ensures.limits refl refl) c.load.ensures.limits;
      refusal = tt;
    }
