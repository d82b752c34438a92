-- The tables that a call leaves alone.
use Rattle.std.proofs.Common.{◌≡◌, ℕ, List, sym, subst}
use Rattle.resolver_clause_store.specs.declared.data.Exhausted.{Exhausted}
use Rattle.resolver_clause_store.specs.declared.data.Exhausted.TheVariants.{Memory}
use Rattle.resolve.specs.Additions.{IsTableShortage}
use Rattle.resolve.specs.Catalogs.{Tables}
use Rattle.resolve.specs.declared.ids.Version.{Version}
use Rattle.resolve.specs.Solvables.{Solvable}

pub same_versions_and_solvables : (t : Tables) (versions : List Version) (solvables : List Solvable) → versions ≡ t.versions → solvables ≡ t.solvables →
    record t { versions = versions; solvables = solvables } ≡ t
same_versions_and_solvables t versions solvables v s = λ i. record t { versions = v i; solvables = s i }

pub IsTableShortage-memory : (count : ℕ) (e : Exhausted) → e ≡ Memory → IsTableShortage count e
IsTableShortage-memory count e is =
    let Says : Exhausted → Type 0 = λ x. IsTableShortage count x in
    subst Says (sym is) tt
