-- When nothing can be added to a table.
use Rattle.std.specs.Prelude.{ℕ, ◌≤◌, ⊤}
use Rattle.resolver_clause_store.specs.declared.data.Exhausted.{Exhausted}
use Rattle.resolver_clause_store.specs.declared.data.Exhausted.TheVariants.{Memory, Ids}

-- memory was refused, or the table has an entry for each id
abbrev pub IsTableShortage : ℕ → Exhausted → Type 0
IsTableShortage count Memory = ⊤
IsTableShortage count Ids = 4294967295 ≤ count
