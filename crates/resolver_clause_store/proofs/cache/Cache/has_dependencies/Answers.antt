use Rattle.resolver_clause_store.proofs.AvailabilityLemmas.{decided}
use Rattle.resolver_clause_store.proofs.cache.Cache.has_dependencies.Goals as goal

pub returns : goal.returns
returns g c = decided c.requires g.met.S.Eq.laws c.args.solvable _ c.contains_key.result c.contains_key.ensures
