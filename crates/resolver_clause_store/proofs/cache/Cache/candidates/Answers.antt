use Rattle.std.proofs.Common.{◌≡◌}
use Rattle.std.specs.Prelude.{Some}
use Rattle.std.proofs.lemmas.Map.Views.{IsSome-lookup_from_Contains}
use Rattle.resolver_clause_store.specs.Universe.{package_of}
use Rattle.resolver_clause_store.proofs.CacheLemmas.{found}
use Rattle.resolver_clause_store.proofs.cache.Cache.candidates.Goals as goal

pub index-requires : goal.index-requires
index-requires g c = IsSome-lookup_from_Contains g.met.N.Eq.laws _ _ c.requires.has

pub returns : goal.returns
returns g c = λ u true_cache. found c.requires.names (λ e. package_of (Some e.1) ≡ u.package_named e.0) _ _ _ true_cache.packages c.index.ensures
