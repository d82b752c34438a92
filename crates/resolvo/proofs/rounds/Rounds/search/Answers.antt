use Rattle.std.proofs.Common.{◌∙◌}
use Rattle.resolver_encoding.specs.Values.{requirement_numbers}
use Rattle.resolvo.specs.RoundStates.{notes_of}
use Rattle.resolvo.proofs.RoundLemmas.{searched}
use Rattle.resolvo.proofs.TurnLemmas.{turn-trans}
use Rattle.resolvo.proofs.rounds.Rounds.search.Goals as goal

pub returns : goal.returns
returns g c =
    record {
      rounds = let mid = c.load.new.self in
          let up = c.in_ok-load.ensures.loaded in
          searched (g.D.Interner.universe c.args.provider.now) mid c.run.new.self c.in_ok-load.ensures.rounds c.in_ok-outcome.ensures.consistent
          (c.in_ok-outcome.ensures.loaded (notes_of mid).table (requirement_numbers (notes_of mid).kinds) up.loaded)
          (c.in_ok-outcome.ensures.variables ∙ up.variables) c.in_ok-outcome.ensures.kept;
      loaded = let mid = c.load.new.self in
          let up = c.in_ok-load.ensures.loaded in
          record {
            loaded = c.in_ok-outcome.ensures.loaded (notes_of mid).table (requirement_numbers (notes_of mid).kinds) up.loaded;
            variables = c.in_ok-outcome.ensures.variables ∙
                up.variables;
          };
      same = record { encoding = c.load.ensures.same.encoding; chosen = c.load.ensures.same.chosen };
      turn = turn-trans c.args.self.now.search c.load.new.self.search c.run.new.self c.in_ok-load.ensures.turn c.in_ok-outcome.ensures.turn;
      outcome = let mid = c.load.new.self in
          c.in_ok-outcome.ensures.outcome (notes_of mid).table (requirement_numbers (notes_of mid).kinds) c.in_ok-load.ensures.loaded.loaded;
      limits = let loaded = c.load.ensures.limits in
          record { variables = loaded.variables; kinds = loaded.kinds; answers = loaded.answers; clauses = loaded.clauses; learnt = loaded.learnt };
      refusal = tt;
    }
