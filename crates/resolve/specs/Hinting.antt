-- A provider that may hint that the dependencies of all candidates are available, and is otherwise the same as another
-- provider.
use Rattle.std.specs.Prelude.{Bool, cond}
use Rattle.resolver_clause_store.specs.Universe.{Universe, Package, hint_all}
use Rattle.resolver_clause_store.specs.Laws.{HasLawfulIds, HasLawfulPackages}

-- the record of a package, with a hint for all candidates if `all` is true
abbrev pub with_hint : {S : Type 0} → Bool → Package S → Package S
with_hint all p = record p { hint = cond all hint_all p.hint }

-- the same for every package
abbrev pub with_hints : {N S : Type 0} → Bool → Universe N S → Universe N S
with_hints all u = record u { package_named = λ n. with_hint all (u.package_named n) }

pub hinted_ids_lawful : {N S : Type 0} (all : Bool) (u : Universe N S) → HasLawfulIds u → HasLawfulIds (with_hints all u)
hinted_ids_lawful all u laws = record { left_lower = laws.left_lower; right_lower = laws.right_lower }

pub hinted_packages_lawful : {N S : Type 0} (all : Bool) (u : Universe N S) → HasLawfulPackages u → HasLawfulPackages (with_hints all u)
hinted_packages_lawful all u laws = record {
  packages = λ n. record {
    listed = (laws.packages n).listed;
    favored = (laws.packages n).favored;
    locked = (laws.packages n).locked;
    excluded = (laws.packages n).excluded;
    once = (laws.packages n).once;
  };
  filter_splits = laws.filter_splits;
  sort_permutes = laws.sort_permutes;
}
