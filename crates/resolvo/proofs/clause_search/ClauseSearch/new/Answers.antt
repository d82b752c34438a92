use Rattle.std.proofs.Common.{refl, rules, sym, ◌∙◌}
use Rattle.std.proofs.lemmas.Option.{none-some}
use Rattle.resolvo.proofs.WatchedLemmas.{in_lists-same}
use Rattle.resolvo.proofs.clause_search.ClauseSearch.new.Goals as goal

pub returns-clause-consistent : goal.returns-clause-consistent
returns-clause-consistent c = record {
  below = search rules;
  derived = search rules;
  justified = search rules;
  chosen = search rules;
  inside = search rules;
  places = search rules;
  count = search rules;
  kept = search rules;
  propagator = rw c.new.ensures (c.empty-2.ensures c.empty.result c.empty.ensures.size);
  turn = search rules;
  queued = rw c.new-3.ensures.items (c.new-6.ensures c.empty.result c.new.result);
}

pub returns-clause-variables : goal.returns-clause-variables
returns-clause-variables c = c.empty.ensures.size

pub returns-clause-learnt : goal.returns-clause-learnt
returns-clause-learnt c = rw (c.new.ensures, c.new-4.ensures) refl

pub returns-clause-turn : goal.returns-clause-turn
returns-clause-turn c = record { base = refl; none = λ variable slot at reason. absurd (none-some slot (sym (c.empty.ensures.none variable) ∙ at)) }

pub invariant_of-result : goal.invariant_of-result
invariant_of-result c =
    record { in_lists = in_lists-same c.new.result c.empty.result c.empty-2.result c.empty-2.result.watches (rw c.new.ensures (c.empty-2.ensures c.empty.result c.empty.ensures.size)) refl }
