use Rattle.std.proofs.Common.{All, take}
use Rattle.resolver_clause_store.specs.Caches.{IsTrueCache}
use Rattle.resolver_clause_store.specs.Candidates.{matching}
use Rattle.resolver_clause_store.specs.Lists.{Meets}
use Rattle.resolver_encoding.proofs.disjuncts.is_met.Given as goal

abbrev pub invariant-loop-version_set : goal.invariant-loop-version_set
invariant-loop-version_set g l = record {
  is_true : IsTrueCache (g.D.Interner.universe l.provider) l.cache;
  met : All (λ v. Meets (matching (g.D.Interner.universe l.provider) v) l.chosen.keys) (take l.version_set-index l.disjunct);
}
