use Rattle.std.proofs.Common.{◌<◌, ◌^◌, All}
use Rattle.resolver_clause_store.specs.Caches.{IsTrueCache}
use Rattle.resolver_encoding.proofs.choices.counts_behind.Given as goal

abbrev pub invariant-loop-version_set : goal.invariant-loop-version_set
invariant-loop-version_set g l = record {
  small : All (λ n. n < 2 ^ 63) l.counts.items;
  is_true : IsTrueCache (g.D.Interner.universe l.provider) l.cache;
}
