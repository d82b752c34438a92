-- Whether two requirements are the same.
use Rattle.std.specs.Prelude.{Bool, false, nat_eq}
use Rattle.resolver_clause_store.specs.declared.data.Requirement.{Requirement}
use Rattle.resolver_clause_store.specs.declared.data.Requirement.TheVariants.{Single, Union}

abbrev pub same_requirement : Requirement → Requirement → Bool
same_requirement (Single v) (Single w) = nat_eq v.0 w.0
same_requirement (Single v) (Union w) = false
same_requirement (Union v) (Single w) = false
same_requirement (Union v) (Union w) = nat_eq v.0 w.0
