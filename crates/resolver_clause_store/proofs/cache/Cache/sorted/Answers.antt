use Rattle.std.proofs.Common.{◌≡◌}
use Rattle.std.proofs.lemmas.Map.Views.{IsSome-lookup_from_Contains}
use Rattle.resolver_clause_store.specs.Candidates.{sorted_candidates}
use Rattle.resolver_clause_store.proofs.CacheLemmas.{found}
use Rattle.resolver_clause_store.proofs.VersionSetLemmas.{version_sets_are_values, version_sets_compare}
use Rattle.resolver_clause_store.proofs.cache.Cache.sorted.Goals as goal

pub index-requires : goal.index-requires
index-requires g c = IsSome-lookup_from_Contains version_sets_compare _ _ c.requires

pub returns : goal.returns
returns g c = λ u true_cache. rw c.deref.ensures.value
    (found version_sets_are_values (λ e. e.1.items ≡ sorted_candidates u e.0) _ _ _ true_cache.sorted c.index.ensures)
