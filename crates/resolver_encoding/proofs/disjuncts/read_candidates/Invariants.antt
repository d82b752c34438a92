use Rattle.resolver_clause_store.specs.Caches.{IsTrueCache}
use Rattle.resolver_encoding.proofs.disjuncts.read_candidates.Given as goal

abbrev pub invariant-loop-version_set : goal.invariant-loop-version_set
invariant-loop-version_set g l = IsTrueCache (g.D.Interner.universe l.provider) l.cache
