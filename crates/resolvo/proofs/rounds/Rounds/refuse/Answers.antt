use Rattle.resolver_encoding.specs.Trails.{solvables_before}
use Rattle.std.proofs.Common.{ap, arith, false, refl, subst, sym, ◌≡◌, ◌<◌, ◌∙◌, ◌+◌, ◌-◌, ℕ}
use Rattle.std.specs.Prelude.{None}
use Rattle.resolver_clause_store.specs.Literals.{Literal}
use Rattle.resolver_clause_store.specs.TrailView.{Gains, IsCut, length_of, level_of, slot_of, variable_count}
use Rattle.resolver_clause_store.specs.declared.Reason.TheVariants.{Assumed}
use Rattle.resolver_clause_store.specs.declared.Trail.{Trail}
use Rattle.resolver_encoding.specs.Notes.{notes_in}
use Rattle.resolver_encoding.specs.Turns.{IsTurnEnd}
use Rattle.resolver_encoding.specs.declared.encoding.Encoding.{Encoding}
use Rattle.resolver_encoding.specs.Values.{requirement_numbers}
use Rattle.resolvo.specs.ClauseSearches.{trail_of}
use Rattle.resolvo.specs.RoundStates.{HasAssumed, notes_of}
use Rattle.resolvo.proofs.SoftLemmas.{assumed_inside, refused_within, rounds_added, rounds_followed, still_assumed}
use Rattle.resolvo.proofs.RoundLemmas.{room_of, room_trans}
use Rattle.resolvo.proofs.rounds.Rounds.refuse.Goals as goal

pub load-requires : goal.load-requires
load-requires g c =
    let u = g.D.Interner.universe c.args.provider.now in
    let old = c.args.self.now in
    record {
      rounds = rounds_added u old c.end_turn.new.self c.requires.rounds (c.end_turn.ensures.limits.answers c.requires.rounds.answers)
          c.in_ok-end_turn.ensures.ended.adds;
    }

pub assume-requires-clause-inside : goal.assume-requires-clause-inside
assume-requires-clause-inside g c =
    let old = c.args.self.now.search in
    let mid = c.load.new.self.search in
    let assumed : HasAssumed mid c.args.variable =
    still_assumed old mid c.args.variable c.requires.rounds.consistent c.in_ok-load.ensures.turn c.requires.assumed in
    let Inside : Literal → Type 0 = λ l. l.variable < variable_count (trail_of c.retract.new.self) in
    subst Inside (sym c.new.ensures)
    (omega (arith, assumed_inside mid c.args.variable c.in_ok-load.ensures.rounds.consistent assumed, c.in_ok-retract.ensures.cut.size))

pub assume-requires-clause-free : goal.assume-requires-clause-free
assume-requires-clause-free g c =
    let old = c.args.self.now.search in
    let mid = c.load.new.self.search in
    let assumed : HasAssumed mid c.args.variable =
    still_assumed old mid c.args.variable c.requires.rounds.consistent c.in_ok-load.ensures.turn c.requires.assumed in
    let Free : Literal → Type 0 = λ l. slot_of (trail_of c.retract.new.self) l.variable ≡ None in
    subst Free (sym c.new.ensures) (ap (slot_of (trail_of c.retract.new.self)) (sym assumed.place) ∙ c.in_ok-retract.ensures.free)

pub follow-requires-clause-loaded : goal.follow-requires-clause-loaded
follow-requires-clause-loaded g c =
    let notes = notes_of c.load.new.self in
    let up = c.in_ok-load.ensures.loaded in
    record {
      loaded = c.in_ok-assume.ensures.loaded notes.table (requirement_numbers notes.kinds) (c.in_ok-retract.ensures.loaded notes.table (requirement_numbers notes.kinds) up.loaded);
      variables = c.in_ok-assume.ensures.gains.size ∙ c.in_ok-retract.ensures.cut.size ∙ up.variables;
    }

pub follow-requires-clause-bookmark : goal.follow-requires-clause-bookmark
follow-requires-clause-bookmark g c =
    let bookmark = c.in_ok-load.ensures.rounds.bookmark in
    record {
      base = bookmark.base;
      follows = bookmark.follows;
      kept = c.in_ok-assume.ensures.kept bookmark.base (c.in_ok-retract.ensures.kept bookmark.base bookmark.kept);
      known = bookmark.known;
    }

pub returns : goal.returns
returns g c =
    let before = trail_of c.retract.new.self in
    let Gained : Literal → Type 0 = λ l. Gains before (trail_of c.assume.new.self) l (level_of before + 1) Assumed in
    let gains = subst Gained c.new.ensures c.in_ok-assume.ensures.gains in
    record {
      rest = record {
        rounds = let u = g.D.Interner.universe c.args.provider.now in
            let old = c.args.self.now.search in
            let mid = c.load.new.self in
            let assumed : HasAssumed mid.search c.args.variable =
            still_assumed old mid.search c.args.variable c.requires.rounds.consistent c.in_ok-load.ensures.turn c.requires.assumed in
            rounds_followed u mid (record mid { search = c.assume.new.self }) c.follow.new.self c.in_ok-follow.field-0 c.in_ok-load.ensures.rounds refl
            c.in_ok-follow.ensures.following
            (refused_within u mid (trail_of c.retract.new.self)
            (trail_of c.assume.new.self) c.args.variable _ c.in_ok-load.ensures.rounds assumed.base c.in_ok-retract.ensures.cut gains
            (ap (slot_of (trail_of c.retract.new.self)) (sym assumed.place) ∙ c.in_ok-retract.ensures.free) c.in_ok-follow.ensures.followed.chosen);
        still = let followed = c.in_ok-follow.ensures.followed in
            let encoding = c.in_ok-follow.ensures.following.encoding in
            let trail = trail_of c.assume.new.self in
            record {
              held = followed.turn.held ∙ c.in_ok-assume.ensures.held ∙ ap length_of (sym followed.trail);
              bookmarked = followed.bookmarked;
              chosen = followed.chosen ∙
                  ap (λ (e : Encoding g.row.N.Denot g.row.S.Denot). solvables_before (notes_in e).origins trail (length_of trail)) (sym encoding) ∙
                  ap (λ (t : Trail). solvables_before (notes_of c.follow.new.self).origins t (length_of t)) (sym followed.trail);
            };
      };
      refused = let u = g.D.Interner.universe c.args.provider.now in
          let old = c.args.self.now in
          let mid = c.load.new.self in
          let assumed : HasAssumed mid.search c.args.variable =
          still_assumed old.search mid.search c.args.variable c.requires.rounds.consistent c.in_ok-load.ensures.turn c.requires.assumed in
          let encoding : c.follow.new.self.encoding ≡ c.end_turn.new.self = c.in_ok-follow.ensures.following.encoding ∙ c.in_ok-load.ensures.same.encoding in
          let Ended : Encoding g.row.N.Denot g.row.S.Denot → Type 0 = λ e. IsTurnEnd u (notes_of old) (notes_in e) in
          let CutTo : ℕ → Type 0 = λ n. IsCut (trail_of mid.search) (trail_of c.retract.new.self) (n - 1) in
          let GainsTo : Trail → Type 0 =
          λ t. Gains (trail_of c.retract.new.self) t (record { variable = c.args.variable; positive = false })
          (level_of (trail_of c.retract.new.self) + 1) Assumed in
          record {
            ended = subst Ended (sym encoding) c.in_ok-end_turn.ensures.ended;
            exempt = ap (λ (e : Encoding g.row.N.Denot g.row.S.Denot). (notes_in e).exempt) encoding ∙ c.in_ok-end_turn.ensures.exempt;
            loaded = mid.search;
            turn = c.in_ok-load.ensures.turn;
            cut = trail_of c.retract.new.self;
            is_cut = subst CutTo c.in_ok-load.ensures.turn.held c.in_ok-retract.ensures.cut;
            free = ap (slot_of (trail_of c.retract.new.self)) (sym assumed.place) ∙ c.in_ok-retract.ensures.free;
            gains = subst GainsTo (sym c.in_ok-follow.ensures.followed.trail) gains;
          };
      limits = let loaded = room_trans c.args.self.now (record c.args.self.now { encoding = c.end_turn.new.self }) c.load.new.self
          (room_of _ _ c.end_turn.ensures.limits refl refl) c.load.ensures.limits in
          room_trans c.args.self.now (record c.load.new.self { search = c.assume.new.self }) c.follow.new.self
          (record { variables = loaded.variables; kinds = loaded.kinds; answers = loaded.answers; clauses = loaded.clauses; learnt = loaded.learnt }) (c.follow.ensures.limits _);
      refusal = tt;
    }

pub assume-requires-clause-bookmarked : goal.assume-requires-clause-bookmarked
assume-requires-clause-bookmarked g c = c.in_ok-retract.ensures.count

pub follow-requires-clause-distinct : goal.follow-requires-clause-distinct
follow-requires-clause-distinct g c = c.in_ok-load.ensures.rounds.reading.so_far.half.encoding.distinct

pub end_turn-requires-clause-one_turn : goal.end_turn-requires-clause-one_turn
end_turn-requires-clause-one_turn g c = c.requires.one_turn

pub retract-requires-clause-turn : goal.retract-requires-clause-turn
retract-requires-clause-turn g c =
    (still_assumed c.args.self.now.search c.load.new.self.search c.args.variable c.requires.rounds.consistent c.in_ok-load.ensures.turn
    c.requires.assumed).base

pub follow-requires-clause-identity : goal.follow-requires-clause-identity
follow-requires-clause-identity g c = g.met.D.Interner.solvables_are_values

pub assume-requires-clause-consistent : goal.assume-requires-clause-consistent
assume-requires-clause-consistent g c = c.in_ok-retract.ensures.consistent

pub follow-requires-clause-consistent : goal.follow-requires-clause-consistent
follow-requires-clause-consistent g c = c.in_ok-assume.ensures.consistent

pub returns-in_err-follow-clause-limits : goal.returns-in_err-follow-clause-limits
returns-in_err-follow-clause-limits g c =
    let loaded = room_trans c.args.self.now (record c.args.self.now { encoding = c.end_turn.new.self }) c.load.new.self
    (room_of _ _ c.end_turn.ensures.limits refl refl) c.load.ensures.limits in
    room_trans c.args.self.now (record c.load.new.self { search = c.assume.new.self }) c.follow.new.self
    (record { variables = loaded.variables; kinds = loaded.kinds; answers = loaded.answers; clauses = loaded.clauses; learnt = loaded.learnt }) (c.follow.ensures.limits _)
