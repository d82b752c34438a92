use Rattle.std.proofs.Common.{◌≡◌, map, take}
use Rattle.resolver_clause_store.specs.Caches.{IsTrueCache}
use Rattle.resolver_clause_store.specs.Candidates.{matching}
use Rattle.resolver_encoding.proofs.explain.matching_lists.Given as goal

abbrev pub invariant-loop-version_set : goal.invariant-loop-version_set
invariant-loop-version_set g l = record {
  are : map (λ list. list.items) l.lists.items ≡ map (matching (g.D.Interner.universe l.provider)) (take l.version_set-index l.version_sets);
  is_true : IsTrueCache (g.D.Interner.universe l.provider) l.cache;
}
