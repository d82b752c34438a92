use Rattle.std.proofs.Common.{◌≡◌, sym, ap}
use Rattle.std.specs.Prelude.{Some, is_some}
use Rattle.std.proofs.lemmas.Map.Views.{Contains-keys_from_lookup}
use Rattle.resolver_clause_store.specs.Universe.{package_of}
use Rattle.resolver_clause_store.proofs.AvailabilityLemmas.{absent, available_cached, available_here, unavailable_here}
use Rattle.resolver_clause_store.proofs.CacheLemmas.{found}
use Rattle.resolver_clause_store.proofs.cache.Cache.are_dependencies_available_for.Goals as goal

pub returns-then-contains_key : goal.returns-then-contains_key
returns-then-contains_key g c =
    available_cached _ _ _ (Contains-keys_from_lookup g.met.D.Interner.solvables_are_values.alone _ _ (sym c.if-contains_key.ensures))

pub returns-in-None : goal.returns-in-None
returns-in-None g c =
    unavailable_here _ _ _ _ c.solvable_name-name.ensures
    (absent g.met.S.Eq.laws _ _ (sym c.if-contains_key.ensures))
    (absent g.met.N.Eq.laws _ _ (ap is_some (sym c.in-None.ensures.value)))

pub returns-in-Some : goal.returns-in-Some
returns-in-Some g c =
    let u = g.D.Interner.universe c.args.provider.now in
    let names = g.met.D.Interner.names_are_values in
    let found_package = found names (λ e. package_of (Some e.1) ≡ u.package_named e.0) _ _ _ c.requires.packages (sym c.in-Some.ensures.value) in
    available_here u _ _ _ c.solvable_name-name.ensures
    (absent g.met.S.Eq.laws _ _ (sym c.if-contains_key.ensures))
    c.in-Some.package.now _
    (Contains-keys_from_lookup names.alone _ _ (ap is_some (sym c.in-Some.ensures.value)))
    found_package c.covers.ensures
