use Rattle.std.proofs.Common.{◌≡◌, rules, ap, ◌∙◌, nat_cmp}
use Rattle.std.specs.Prelude.{map}
use Rattle.resolver_report.proofs.ItemLemmas.{items_of_vec}
use Rattle.resolve.specs.Packages.{version_at}
use Rattle.resolver_clause_store.specs.Sorting.{sorted_by}
use Rattle.resolver_clause_store.specs.SortingLemmas.{sorted_by-numbers}
use Rattle.resolve.proofs.catalog.Catalog.rising_versions.Goals as goal

pub returns-clause-versions : goal.returns-clause-versions
returns-clause-versions c =
    let sorted = c.in_ok-versions.ensures.sorted in
    let collected = c.in_ok-collect_vec.ensures.runs in
    let given : sorted.0.items ≡ map (version_at c.args.self.now.packages.versions.keys) c.args.solvables.now = search rules in
    collected.3 ∙ items_of_vec collected.0 collected.1 collected.2 ∙ sorted_by-numbers _ _ sorted.3.0 sorted.3.1 ∙ ap (sorted_by nat_cmp) given
