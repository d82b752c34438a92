use Rattle.std.proofs.Common.{arith}
use Rattle.std.proofs.lemmas.Grind.{common_steps}
use Rattle.resolvo.proofs.clause_search.ClauseSearch.learn.Goals as goal

pub returns-in_ok-answer-in-Clause-clause-same : goal.returns-in_ok-answer-in-Clause-clause-same
returns-in_ok-answer-in-Clause-clause-same c =
    let same = c.in_ok-answer-in-Clause.ensures.same in
    record {
      loaded = λ given numbers before. same.loaded given numbers
          (record { clauses = before.clauses; requirements = before.requirements; inside = before.inside });
      variables = same.variables;
      kept = same.kept;
      turn = record { base = same.turn.base; held = same.turn.held; assumed = same.turn.assumed; places = same.turn.places };
    }

pub returns-in_ok-answer-in-Clause-clause-below : goal.returns-in_ok-answer-in-Clause-clause-below
returns-in_ok-answer-in-Clause-clause-below c = grind (arith, common_steps)

pub returns-in_ok-answer-in-Clause-clause-consistent : goal.returns-in_ok-answer-in-Clause-clause-consistent
returns-in_ok-answer-in-Clause-clause-consistent c = grind (arith, common_steps)

pub returns-in_ok-answer-in-Clause-clause-ids : goal.returns-in_ok-answer-in-Clause-clause-ids
returns-in_ok-answer-in-Clause-clause-ids c = grind (arith, common_steps)

pub returns-in_ok-answer-in-Clause-clause-more : goal.returns-in_ok-answer-in-Clause-clause-more
returns-in_ok-answer-in-Clause-clause-more c = grind (arith, common_steps)

pub returns-in_ok-numbers-in-Contradiction-clause-below : goal.returns-in_ok-numbers-in-Contradiction-clause-below
returns-in_ok-numbers-in-Contradiction-clause-below c = grind (arith, common_steps)

pub returns-in_ok-numbers-in-Contradiction-clause-consistent : goal.returns-in_ok-numbers-in-Contradiction-clause-consistent
returns-in_ok-numbers-in-Contradiction-clause-consistent c = grind (arith, common_steps)

pub returns-in_ok-numbers-in-Contradiction-clause-ids : goal.returns-in_ok-numbers-in-Contradiction-clause-ids
returns-in_ok-numbers-in-Contradiction-clause-ids c = grind (arith, common_steps)

pub returns-in_ok-numbers-in-Contradiction-clause-more : goal.returns-in_ok-numbers-in-Contradiction-clause-more
returns-in_ok-numbers-in-Contradiction-clause-more c = grind (arith, common_steps)

pub returns-in_ok-numbers-in-Contradiction-clause-outcome : goal.returns-in_ok-numbers-in-Contradiction-clause-outcome
returns-in_ok-numbers-in-Contradiction-clause-outcome g c = grind (arith, common_steps)

pub returns-in_ok-numbers-in-Contradiction-clause-same : goal.returns-in_ok-numbers-in-Contradiction-clause-same
returns-in_ok-numbers-in-Contradiction-clause-same c = grind (arith, common_steps)
