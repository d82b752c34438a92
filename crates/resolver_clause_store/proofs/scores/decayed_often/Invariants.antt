use Rattle.std.proofs.Common.{◌≡◌, ◌-◌}
use Rattle.resolver_clause_store.specs.Scores.{after_decays}
use Rattle.resolver_clause_store.proofs.scores.decayed_often.Given as goal

abbrev pub invariant-times : goal.invariant-times
invariant-times l = after_decays l.decay (l.times - l.count) l.left ≡ after_decays l.decay l.times l.score
