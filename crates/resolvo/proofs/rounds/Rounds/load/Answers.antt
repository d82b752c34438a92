use Rattle.std.proofs.Common.{ap, length, ◌∙◌, ◌≡◌, refl}
use Rattle.resolver_clause_store.specs.TrailView.{variable_count}
use Rattle.resolver_encoding.specs.Values.{requirement_numbers}
use Rattle.resolvo.specs.ClauseSearches.{IsLoaded, trail_of}
use Rattle.resolvo.specs.RoundStates.{chosen_of, notes_of}
use Rattle.resolvo.proofs.RoundLemmas.{given_below, given_inside, loaded_all, rounds_owned, searched, still_owned}
use Rattle.resolvo.proofs.GoingLemmas.{still_loaded}
use Rattle.resolvo.proofs.rounds.Rounds.load.Goals as goal

pub load-requires-clause-below : goal.load-requires-clause-below
load-requires-clause-below g c =
    given_below (g.D.Interner.universe c.args.provider.now) (chosen_of c.args.self.now)
    (notes_of c.args.self.now) c.len.result c.literals.result.now c.requires.rounds.reading
    (c.len.ensures ∙ ap length c.variables-known.ensures) c.literals.ensures

pub load-requires-clause-inside : goal.load-requires-clause-inside
load-requires-clause-inside g c =
    given_inside (g.D.Interner.universe c.args.provider.now) (chosen_of c.args.self.now)
    (notes_of c.args.self.now) c.literals.result.now c.requirements.result.now c.requires.rounds.reading c.literals.ensures c.requirements.ensures

pub returns : goal.returns
returns g c =
    record {
      rounds = let notes = notes_of c.args.self.now in
          let loaded : IsLoaded notes.table (requirement_numbers notes.kinds) c.load.new.self =
          loaded_all notes.table c.literals.result.now (requirement_numbers notes.kinds) c.requirements.result.now c.args.self.now.search c.load.new.self
          c.requires.rounds.loaded c.literals.ensures c.requirements.ensures c.in_ok-load.ensures.loaded in
          let size : variable_count (trail_of c.load.new.self) ≡ length notes.origins = c.in_ok-load.ensures.variables ∙ c.len.ensures ∙
          ap length c.variables-known.ensures in
          let it = record c.args.self.now { owners = c.follow.new.self } in
          searched (g.D.Interner.universe c.args.provider.now) it c.load.new.self
          (rounds_owned (g.D.Interner.universe c.args.provider.now) c.args.self.now c.follow.new.self c.requires.rounds) c.in_ok-load.ensures.consistent loaded
          size c.in_ok-load.ensures.kept;
      loaded = let notes = notes_of c.args.self.now in
          record {
            loaded = loaded_all notes.table c.literals.result.now (requirement_numbers notes.kinds) c.requirements.result.now c.args.self.now.search c.load.new.self
                c.requires.rounds.loaded c.literals.ensures c.requirements.ensures c.in_ok-load.ensures.loaded;
            variables = c.in_ok-load.ensures.variables ∙ c.len.ensures ∙ ap length c.variables-known.ensures;
          };
      same = record { encoding = refl; chosen = refl };
      turn = c.in_ok-load.ensures.turn;
      still = λ still.
          let it = record c.args.self.now { owners = c.follow.new.self } in
          still_loaded (g.D.Interner.universe c.args.provider.now) it c.load.new.self
          (rounds_owned (g.D.Interner.universe c.args.provider.now) c.args.self.now c.follow.new.self c.requires.rounds) c.in_ok-load.ensures.consistent
          c.in_ok-load.ensures.set c.in_ok-load.ensures.bookmarked c.in_ok-load.ensures.turn (still_owned c.args.self.now c.follow.new.self still);
      limits = record { variables = refl; kinds = refl; answers = λ known. known; clauses = refl; learnt = refl };
      memory = tt;
    }
