use Rattle.std.proofs.Common.{◌∙◌, inr}
use Rattle.resolver_encoding.specs.Values.{requirement_numbers}
use Rattle.resolvo.specs.RoundStates.{notes_of}
use Rattle.resolvo.proofs.RoundLemmas.{searched}
use Rattle.resolvo.proofs.TurnLemmas.{turn-trans}
use Rattle.resolvo.proofs.rounds.Rounds.decide_after_failure.Goals as goal

pub returns : goal.returns
returns g c =
    let mid = c.load.new.self in
    let up = c.in_ok-load.ensures.loaded in
    let same = c.in_ok-is_made.ensures.same in
    let loaded = c.load.ensures.limits in
    record {
      rounds = searched (g.D.Interner.universe c.args.provider.now) mid c.decide.new.self c.in_ok-load.ensures.rounds c.in_ok-is_made.ensures.consistent
          (same.loaded (notes_of mid).table (requirement_numbers (notes_of mid).kinds) up.loaded) (same.variables ∙ up.variables) same.kept;
      loaded = record {
        loaded = same.loaded (notes_of mid).table (requirement_numbers (notes_of mid).kinds) up.loaded;
        variables = same.variables ∙ up.variables;
      };
      same = record { encoding = c.load.ensures.same.encoding; chosen = c.load.ensures.same.chosen };
      turn = turn-trans c.args.self.now.search c.load.new.self.search c.decide.new.self c.in_ok-load.ensures.turn same.turn;
      made = c.in_ok-is_made.ensures.made;
      none = λ none. inr (c.in_ok-is_made.ensures.none none);
      limits = record { variables = loaded.variables; kinds = loaded.kinds; answers = loaded.answers; clauses = loaded.clauses; learnt = loaded.learnt };
      refusal = tt;
    }
