use Rattle.std.proofs.Common.{arith, ap, length, refl, subst, sym, true, List, ◌≡◌, ◌<◌, ◌+◌}
use Rattle.resolver_clause_store.specs.Literals.{Literal}
use Rattle.resolver_clause_store.specs.TrailView.{Gains, level_of, variable_count}
use Rattle.resolver_clause_store.specs.declared.Reason.TheVariants.{Assumed}
use Rattle.resolvo.specs.ClauseSearches.{trail_of}
use Rattle.resolvo.proofs.SoftLemmas.{accepted, just_assumed, not_accepted, rest_held, rounds_assumed, still_assumed, turned_held}
use Rattle.resolver_encoding.proofs.SoFarLemmas.{lawful_solvables}
use Rattle.resolver_encoding.proofs.RoomLemmas.{KeepsTrue-of}
use Rattle.std.proofs.lemmas.Option.{slice_get_within}
use Rattle.resolver_clause_store.specs.declared.Origin.TheVariants.{Solvable as SolvableOrigin}
use Rattle.resolvo.specs.RoundStates.{notes_of}
use Rattle.resolvo.proofs.RoundLemmas.{room_of, room_trans}
use Rattle.resolvo.proofs.rounds.Rounds.attempt.Goals as goal

pub is_answered-requires : goal.is_answered-requires
is_answered-requires g c = record {
  rounds = rounds_assumed (g.D.Interner.universe c.args.provider.now) c.args.self.now c.begin_turn.new.self c.assume.new.self c.args.variable c.requires.rest.rounds
      c.begin_turn.ensures.only c.in_ok-begin_turn.ensures.stays.so_far
      c.in_ok-assume.ensures.consistent c.in_ok-assume.ensures.loaded c.in_ok-assume.ensures.gains.size c.in_ok-assume.ensures.kept
      ((KeepsTrue-of {u = g.D.Interner.universe c.args.provider.now} _ _ c.begin_turn.ensures.limits).answers c.requires.rest.rounds.answers);
}

pub returns-then-answered : goal.returns-then-answered
returns-then-answered g c =
    let before = trail_of c.args.self.now.search in
    let Gained : Literal → Type 0 = λ l. Gains before (trail_of c.assume.new.self) l (level_of before + 1) Assumed in
    let gains = subst Gained c.new.ensures c.in_ok-assume.ensures.gains in
    record {
      rest = rest_held (g.D.Interner.universe c.args.provider.now) c.is_answered.new.self c.hold.new.self c.hold.ensures.trail c.hold.ensures.count
          c.hold.ensures.held c.in_ok-answered.ensures.rounds c.hold.ensures.consistent c.hold.ensures.loaded
          (c.in_ok-answered.ensures.answer c.if-answered.true);
      turned = λ seen root taken refused seeds packages seed b.
          let u = g.D.Interner.universe c.args.provider.now in
          let old = c.args.self.now in
          turned_held u c.is_answered.new.self c.hold.new.self c.hold.ensures.trail c.hold.ensures.count root taken refused seeds packages c.args.solvable old true
          (accepted u root taken refused seeds packages c.args.solvable c.args.variable old c.begin_turn.new.self c.assume.new.self c.requires.loaded.variables
          c.requires.rest.rounds.reading.so_far.half.encoding.distinct c.requires.rest.still
          c.requires.stands c.requires.free seen seed c.begin_turn.ensures.only c.in_ok-begin_turn.ensures.exempts c.in_ok-begin_turn.ensures.stays.so_far
          gains c.in_ok-assume.ensures.held b
          c.is_answered.new.self c.in_ok-answered.ensures.keeps (c.in_ok-answered.ensures.answer c.if-answered.true));
      limits = let room = room_trans c.args.self.now (record c.args.self.now { encoding = c.begin_turn.new.self; search = c.assume.new.self }) c.is_answered.new.self
          (room_of _ _ (KeepsTrue-of _ _ c.begin_turn.ensures.limits) refl refl) c.is_answered.ensures.limits in
          record { variables = room.variables; kinds = room.kinds; answers = room.answers; clauses = room.clauses; learnt = room.learnt };
      refusal = tt;
    }

pub refuse-requires-clause-assumed : goal.refuse-requires-clause-assumed
refuse-requires-clause-assumed g c =
    let before = trail_of c.args.self.now.search in
    let Gained : Literal → Type 0 = λ l. Gains before (trail_of c.assume.new.self) l (level_of before + 1) Assumed in
    let gains = subst Gained c.new.ensures c.in_ok-assume.ensures.gains in
    let old = c.args.self.now in
    still_assumed c.assume.new.self c.is_answered.new.self.search c.args.variable c.in_ok-assume.ensures.consistent c.in_ok-answered.ensures.keeps.turn
    (just_assumed old.search c.assume.new.self c.args.variable gains c.in_ok-assume.ensures.base c.in_ok-assume.ensures.held)

pub returns : goal.returns
returns g c =
    let before = trail_of c.args.self.now.search in
    let Gained : Literal → Type 0 = λ l. Gains before (trail_of c.assume.new.self) l (level_of before + 1) Assumed in
    let gains = subst Gained c.new.ensures c.in_ok-assume.ensures.gains in
    record {
      rest = c.in_ok-refuse.ensures.rest;
      turned = λ seen root taken refused seeds packages seed b.
          let u = g.D.Interner.universe c.args.provider.now in
          let old = c.args.self.now in
          not_accepted u root taken refused seeds packages c.args.solvable c.args.variable old c.begin_turn.new.self c.assume.new.self c.requires.loaded.variables
          c.requires.rest.rounds.reading.so_far.half.encoding.distinct c.requires.rest.still
          c.requires.stands c.requires.free seen seed c.begin_turn.ensures.only c.in_ok-begin_turn.ensures.exempts c.in_ok-begin_turn.ensures.stays.so_far
          gains c.in_ok-assume.ensures.held b
          c.is_answered.new.self c.in_ok-answered.ensures.keeps
          (lawful_solvables u g.S.PartialEq.eq (g.met.D.Interner.lawful_ids c.args.provider.now)
          (g.met.D.Interner.solvables_compare c.args.provider.now) g.met.D.Interner.solvables_are_values) c.in_ok-assume.ensures.base
          (c.in_ok-answered.ensures.unanswered c.if-answered.false)
          (length c.exempt-exempt.result.now)
          (ap length c.exempt-exempt.ensures) c.in_ok-answered.ensures.rounds c.refuse.new.self c.in_ok-refuse.ensures.refused c.in_ok-refuse.ensures.rest.still;
      limits = room_trans c.args.self.now c.is_answered.new.self c.refuse.new.self
          (room_trans c.args.self.now (record c.args.self.now { encoding = c.begin_turn.new.self; search = c.assume.new.self }) c.is_answered.new.self
          (room_of _ _ (KeepsTrue-of _ _ c.begin_turn.ensures.limits) refl refl) c.is_answered.ensures.limits) c.refuse.ensures.limits;
      refusal = tt;
    }

pub refuse-requires-clause-one_turn : goal.refuse-requires-clause-one_turn
refuse-requires-clause-one_turn g c =
    omega (arith, ap length c.in_ok-answered.ensures.keeps.exempt, c.begin_turn.ensures.few, ap length c.exempt-exempt.ensures)

pub assume-requires-clause-inside : goal.assume-requires-clause-inside
assume-requires-clause-inside g c =
    let inside : c.args.variable < length (notes_of c.args.self.now).origins =
    slice_get_within (notes_of c.args.self.now).origins c.args.variable (SolvableOrigin c.args.solvable) c.requires.stands in
    let Inside : Literal → Type 0 = λ l. l.variable < variable_count (trail_of c.args.self.now.search) in
    subst Inside (sym c.new.ensures) (omega (arith, inside, c.requires.loaded.variables))

pub assume-requires-clause-bookmarked : goal.assume-requires-clause-bookmarked
assume-requires-clause-bookmarked g c = c.requires.rest.still.bookmarked

pub hold-requires-clause-bookmarked : goal.hold-requires-clause-bookmarked
hold-requires-clause-bookmarked g c = (c.in_ok-answered.ensures.answer c.if-answered.true).bookmarked
