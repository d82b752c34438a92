-- The order of versions is total, and ties no two different solvables.
use Rattle.std.specs.Prelude.{◌≡◌, ℕ, List}
use Rattle.std.proofs.Common.{refl, ap}
use Rattle.std.proofs.lemmas.Cmp.{nat_cmp_total, on_total, then_total, back_total}
use Rattle.std.specs.Cmp.{IsTotalOrder}
use Rattle.std.specs.Ordering.{nat_cmp, ordering_then}
use Rattle.std.specs.declared.cmp.Ordering.{Ordering}
use Rattle.std.specs.declared.cmp.Ordering.TheVariants.{Less, Equal, Greater}
use Rattle.resolver_clause_store.specs.SortingLemmas.{nat_cmp-tied}
use Rattle.resolve.specs.declared.ids.SolvableId.{SolvableId}
use Rattle.resolve.specs.declared.ids.Version.{Version}
use Rattle.resolve.specs.Packages.{preference, version_at}

then-tied : (o p : Ordering) → ordering_then o p ≡ Equal → (o ≡ Equal) × (p ≡ Equal)
then-tied Less p e = absurd cc
then-tied Equal p e = (refl, e)
then-tied Greater p e = absurd cc

pub preference-total : (solvables : List Version) → IsTotalOrder (preference solvables)
preference-total solvables = then_total (back_total (on_total (version_at solvables) nat_cmp_total)) (on_total (λ (s : SolvableId). s.0) nat_cmp_total)

pub preference-tied : (solvables : List Version) (s t : SolvableId) → preference solvables s t ≡ Equal → s ≡ t
preference-tied solvables s t e =
    let same : s.0 ≡ t.0 = nat_cmp-tied s.0 t.0 (then-tied (nat_cmp (version_at solvables t) (version_at solvables s)) (nat_cmp s.0 t.0) e).1 in
    ap (λ (k : ℕ). let u : SolvableId = record { 0 = k } in u) same
