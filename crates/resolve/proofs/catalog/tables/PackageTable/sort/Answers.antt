use Rattle.std.proofs.Common.{rules}
use Rattle.resolve.specs.Packages.{preference}
use Rattle.resolve.specs.PreferenceLemmas.{preference-total, preference-tied}
use Rattle.resolver_clause_store.specs.SortingLemmas.{sorted_by-from_clause}
use Rattle.resolve.proofs.catalog.tables.PackageTable.sort.Goals as goal

pub returns : goal.returns
returns c = sorted_by-from_clause (preference c.args.self.now.versions.keys) (preference-total c.args.self.now.versions.keys)
    (preference-tied c.args.self.now.versions.keys) _ _ c.sort_unstable_by.ensures.permutation c.sort_unstable_by.ensures.sorted (λ a r q k. search rules)
