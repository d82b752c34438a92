use Rattle.std.proofs.Common.{◌≡◌}
use Rattle.std.proofs.lemmas.Map.Views.{IsSome-lookup_from_Contains}
use Rattle.resolver_clause_store.specs.Universe.{needs_of}
use Rattle.resolver_clause_store.proofs.CacheLemmas.{found}
use Rattle.resolver_clause_store.proofs.cache.Cache.dependencies.Goals as goal

pub index-requires : goal.index-requires
index-requires g c = IsSome-lookup_from_Contains g.met.S.Eq.laws _ _ c.requires.has

pub returns : goal.returns
returns g c = λ u true_cache. found c.requires.solvables (λ e. needs_of e.1 ≡ u.needs e.0) _ _ _ true_cache.dependencies c.index.ensures
