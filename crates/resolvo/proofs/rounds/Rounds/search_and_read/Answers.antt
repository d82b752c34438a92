use Rattle.std.proofs.Common.{List, ◌≡◌}
use Rattle.resolver_clause_store.specs.Outcomes.{IsFinished}
use Rattle.resolver_clause_store.specs.declared.RequirementClause.{RequirementClause}
use Rattle.resolver_encoding.specs.SoFar.{IsProgress}
use Rattle.resolver_encoding.specs.Values.{requirement_numbers}
use Rattle.resolvo.specs.ClauseSearches.{OutcomeIs, numbers_of, trail_of}
use Rattle.resolvo.specs.RoundStates.{notes_of}
use Rattle.resolvo.proofs.GoingLemmas.{answering, goes_searched, goes_trans}
use Rattle.resolver_encoding.proofs.SoFarLemmas.{lawful_solvables}
use Rattle.resolvo.proofs.RoundLemmas.{room_trans}
use Rattle.resolvo.proofs.rounds.Rounds.search_and_read.Goals as goal

pub returns-in-Contradiction : goal.returns-in-Contradiction
returns-in-Contradiction g c =
    record {
      rounds = c.in_ok-core.ensures.rounds;
      keeps = goes_searched (g.D.Interner.universe c.args.provider.now) c.args.self.now c.search.new.self c.in_ok-core.ensures.same c.in_ok-core.ensures.turn;
      round = let mid = c.search.new.self in
          let outcome : OutcomeIs (notes_of mid).table (requirement_numbers (notes_of mid).kinds) mid.search c.in_ok-core.field-0 =
          c.in_ok-core.ensures.outcome in
          rw c.in-Contradiction.is at outcome;
      limits = c.search.ensures.limits;
      refusal = tt;
    }

pub returns-in-Refused : goal.returns-in-Refused
returns-in-Refused g c =
    record {
      rounds = c.in_ok-core.ensures.rounds;
      keeps = goes_searched (g.D.Interner.universe c.args.provider.now) c.args.self.now c.search.new.self c.in_ok-core.ensures.same c.in_ok-core.ensures.turn;
      round = let mid = c.search.new.self in
          let outcome : OutcomeIs (notes_of mid).table (requirement_numbers (notes_of mid).kinds) mid.search c.in_ok-core.field-0 =
          c.in_ok-core.ensures.outcome in
          rw c.in-Refused.is at outcome;
      limits = c.search.ensures.limits;
      refusal = tt;
    }

pub returns-in-Nothing : goal.returns-in-Nothing
returns-in-Nothing g c =
    record {
      rounds = c.in_ok-read-in-Finished.ensures.rounds;
      keeps = goes_trans (g.D.Interner.universe c.args.provider.now) c.args.self.now c.search.new.self c.read.new.self c.requires.rounds.variables
          (goes_searched (g.D.Interner.universe c.args.provider.now) c.args.self.now c.search.new.self c.in_ok-core.ensures.same c.in_ok-core.ensures.turn)
          c.in_ok-read-in-Finished.ensures.keeps;
      round = let u = g.D.Interner.universe c.args.provider.now in
          let mid = c.search.new.self in
          let new = c.read.new.self in
          let up = c.in_ok-core.ensures.loaded in
          let followed = c.in_ok-read-in-Finished.ensures.followed in
          let outcome : OutcomeIs (notes_of mid).table (requirement_numbers (notes_of mid).kinds) mid.search c.in_ok-core.field-0 =
          c.in_ok-core.ensures.outcome in
          let finished : (requirements : List RequirementClause) → numbers_of requirements ≡ requirement_numbers (notes_of mid).kinds →
          IsFinished (notes_of mid).table requirements (trail_of mid.search) = rw c.in-Finished.is at outcome in
          let progress : IsProgress (notes_of mid) (notes_of new) c.in_ok-read-in-Finished.field-0 = c.in_ok-read-in-Finished.ensures.progress in
          let same : notes_of new ≡ notes_of mid = rw c.in-Nothing.is at progress in
          answering u mid new
          (lawful_solvables u g.S.PartialEq.eq (g.met.D.Interner.lawful_ids c.args.provider.now)
          (g.met.D.Interner.solvables_compare c.args.provider.now) g.met.D.Interner.solvables_are_values)
          (g.met.D.DependencyProvider.lawful_packages c.args.provider.now)
          up c.in_ok-core.ensures.rounds followed same followed.bookmarked finished;
      limits = room_trans c.args.self.now c.search.new.self c.read.new.self c.search.ensures.limits c.read.ensures.limits;
      refusal = tt;
    }

pub returns-in-Fired : goal.returns-in-Fired
returns-in-Fired g c =
    record {
      rounds = c.in_ok-read-in-Finished.ensures.rounds;
      keeps = goes_trans (g.D.Interner.universe c.args.provider.now) c.args.self.now c.search.new.self c.read.new.self c.requires.rounds.variables
          (goes_searched (g.D.Interner.universe c.args.provider.now) c.args.self.now c.search.new.self c.in_ok-core.ensures.same c.in_ok-core.ensures.turn)
          c.in_ok-read-in-Finished.ensures.keeps;
      round = let progress : IsProgress (notes_of c.search.new.self) (notes_of c.read.new.self) c.in_ok-read-in-Finished.field-0 =
          c.in_ok-read-in-Finished.ensures.progress in
          let fired = rw c.in-Fired.is at progress in
          rw c.in_ok-core.ensures.same.encoding at fired;
      limits = room_trans c.args.self.now c.search.new.self c.read.new.self c.search.ensures.limits c.read.ensures.limits;
      refusal = tt;
    }

pub returns-in-Read : goal.returns-in-Read
returns-in-Read g c =
    record {
      rounds = c.in_ok-read-in-Finished.ensures.rounds;
      keeps = goes_trans (g.D.Interner.universe c.args.provider.now) c.args.self.now c.search.new.self c.read.new.self c.requires.rounds.variables
          (goes_searched (g.D.Interner.universe c.args.provider.now) c.args.self.now c.search.new.self c.in_ok-core.ensures.same c.in_ok-core.ensures.turn)
          c.in_ok-read-in-Finished.ensures.keeps;
      round = let progress : IsProgress (notes_of c.search.new.self) (notes_of c.read.new.self) c.in_ok-read-in-Finished.field-0 =
          c.in_ok-read-in-Finished.ensures.progress in
          let read = rw c.in-Read.is at progress in
          (rw c.in_ok-core.ensures.same.encoding at read, c.in_ok-read-in-Finished.ensures.fit);
      limits = room_trans c.args.self.now c.search.new.self c.read.new.self c.search.ensures.limits c.read.ensures.limits;
      refusal = tt;
    }
