-- The package that a variable belongs to.
use Rattle.std.specs.Prelude.{ℕ, ◌==◌, ◌-◌, Option, Some, None, if◌then◌else◌}
use Rattle.resolver_clause_store.specs.declared.owner.Owner.{Owner}

-- the package's number, if there is one
abbrev pub package_number : Owner → Option ℕ
package_number owner = if owner.place == 0 then None else Some (owner.place - 1)
