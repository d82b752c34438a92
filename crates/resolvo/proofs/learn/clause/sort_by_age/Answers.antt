use Rattle.std.proofs.Common.{rules}
use Rattle.std.proofs.lemmas.List.Sorted.{IsNonDecreasingBy-from_sort_by_key}
use Rattle.resolvo.specs.Resolvents.{age_in}
use Rattle.resolvo.proofs.learn.clause.sort_by_age.Goals as goal

pub returns-clause-sorted : goal.returns-clause-sorted
returns-clause-sorted c = IsNonDecreasingBy-from_sort_by_key (age_in c.args.trail.now) _ c.sort_unstable_by_key.ensures.sorted (λ a r q k. search rules)
