use Rattle.std.proofs.Common.{length, refl, subst, sym, ◌≤◌, ◌∙◌, All, Contains, List}
use Rattle.resolver_clause_store.specs.declared.Origin.TheVariants.{Solvable}
use Rattle.resolver_encoding.specs.Notes.{notes_in}
use Rattle.resolver_encoding.specs.declared.encoding.Encoding.{Encoding}
use Rattle.resolvo.specs.ClauseSearches.{trail_of}
use Rattle.resolvo.specs.RoundStates.{notes_of}
use Rattle.resolvo.proofs.RoundLemmas.{chosen_known, read_first, read_more, reading_first, room_of, room_trans}
use Rattle.resolvo.proofs.GoingLemmas.{drawn_or_assumed, goes_read}
use Rattle.resolver_encoding.proofs.ReachLemmas.{positives_seen}
use Rattle.resolver_encoding.specs.SoFar.{IsProgress}
use Rattle.resolver_encoding.specs.Values.{requirement_numbers}
use Rattle.resolvo.proofs.rounds.Rounds.read.Goals as goal

pub read_chosen-requires-clause-reading : goal.read_chosen-requires-clause-reading
read_chosen-requires-clause-reading g c =
    reading_first (g.D.Interner.universe c.args.provider.now) c.args.self.now c.follow.new.self c.in_ok-from.from c.solvables.result.now.keys
    c.in_ok-from.ensures.following c.solvables.ensures c.requires.rounds.reading

pub read_chosen-requires-clause-known : goal.read_chosen-requires-clause-known
read_chosen-requires-clause-known g c =
    let it = c.in_ok-from.ensures.following in
    let Known : Encoding g.row.N.Denot g.row.S.Denot → Type 0 = λ e. All (λ s. Contains (notes_in e).origins (Solvable s)) c.solvables.result.now.keys in
    subst Known (sym it.encoding) (chosen_known (notes_of c.args.self.now).origins
    (trail_of c.args.self.now.search) c.requires.loaded.variables c.solvables.result.now.keys (c.solvables.ensures ∙ c.in_ok-from.ensures.followed.chosen))

pub returns : goal.returns
returns g c =
    record {
      rounds = read_more
          (g.D.Interner.universe c.args.provider.now) c.args.self.now c.follow.new.self c.in_ok-from.from c.solvables.result.now.keys c.read_chosen.new.self
          c.requires.rounds c.in_ok-from.ensures.following c.solvables.ensures c.in_ok-progress.ensures.more
          c.in_ok-progress.ensures.read
          (c.read_chosen.ensures.limits.answers ((c.follow.ensures.limits (g.D.Interner.universe c.args.provider.now)).answers c.requires.rounds.answers));
      keeps = let old = c.args.self.now in
          goes_read (g.D.Interner.universe c.args.provider.now) old c.follow.new.self c.in_ok-from.from c.solvables.result.now.keys c.read_chosen.new.self
          c.requires.loaded c.in_ok-from.ensures.following c.in_ok-from.ensures.followed c.solvables.ensures
          c.in_ok-progress.ensures.more c.in_ok-progress.ensures.read c.in_ok-progress.ensures.near
          (c.in_ok-progress.ensures.asked c.requires.rounds.reading.root
          (read_first (g.D.Interner.universe c.args.provider.now) c.requires.rounds.reading.root old c.follow.new.self c.in_ok-from.from
          c.solvables.result.now.keys c.in_ok-from.ensures.following c.solvables.ensures c.requires.rounds.reading.so_far)).stays
          (drawn_or_assumed old.search (notes_of old).table (requirement_numbers (notes_of old).kinds) c.requires.rounds.consistent c.requires.loaded.loaded)
          (λ root encoding. positives_seen (g.D.Interner.universe c.args.provider.now) root (notes_of old) encoding);
      followed = let it = c.in_ok-from.ensures.followed in
          record { trail = it.trail; clauses = it.clauses; learnt = it.learnt; turn = it.turn; bookmarked = it.bookmarked; chosen = it.chosen };
      progress = let Progress : Encoding g.row.N.Denot g.row.S.Denot → Type 0 = λ e.
          IsProgress (notes_in e) (notes_in c.read_chosen.new.self) c.in_ok-progress.progress in
          subst Progress c.in_ok-from.ensures.following.encoding c.in_ok-progress.ensures.progress;
      fit = c.in_ok-progress.ensures.fit;
      limits = room_trans _ c.follow.new.self _ (c.follow.ensures.limits _) (room_of _ _ c.read_chosen.ensures.limits refl refl);
      refusal = tt;
    }

pub follow-requires-clause-distinct : goal.follow-requires-clause-distinct
follow-requires-clause-distinct g c = c.requires.rounds.reading.so_far.half.encoding.distinct

pub follow-requires-clause-identity : goal.follow-requires-clause-identity
follow-requires-clause-identity g c = g.met.D.Interner.solvables_are_values

pub follow-requires-clause-bookmark : goal.follow-requires-clause-bookmark
follow-requires-clause-bookmark g c = c.requires.rounds.bookmark

pub read_chosen-requires-clause-within : goal.read_chosen-requires-clause-within
read_chosen-requires-clause-within g c =
    let Within : List g.row.S.Denot → Type 0 = λ list. c.in_ok-from.from ≤ length list in
    subst Within (sym c.solvables.ensures) c.in_ok-from.ensures.following.within

pub returns-in_err-from-clause-limits : goal.returns-in_err-from-clause-limits
returns-in_err-from-clause-limits g c = c.follow.ensures.limits (g.D.Interner.universe c.args.provider.now)

pub returns-in_err-progress-clause-limits : goal.returns-in_err-progress-clause-limits
returns-in_err-progress-clause-limits g c =
    room_trans _ c.follow.new.self _ (c.follow.ensures.limits _) (room_of _ _ c.read_chosen.ensures.limits refl refl)
