-- The view that callers have of a problem.
use Rattle.std.specs.Iterator.{Drains}
use Rattle.std.specs.Prelude.{◌≡◌, List, [], Option, Some, None}
use Rattle.resolver_clause_store.specs.Universe.{Demands}
use Rattle.resolver_clause_store.specs.declared.SoftRequirement.{SoftRequirement}
use Rattle.resolvo.specs.declared.problem.Problem.{Problem}
use Rattle.resolver_report.specs.Listed.{optional_items}

-- an iterator, if there is one, yields just these items
abbrev pub AreItems : {I X : Type 0} → (I → Option X → I → Type 0) → Option I → List X → Type 0
AreItems gives None items = items ≡ []
AreItems gives (Some it) items = Drains gives it items

-- the requirements and constraints of the root
abbrev pub root_demands : {Id S : Type 0} → Problem Id S → Demands
root_demands p = record { requirements = optional_items p.requirements; constraints = optional_items p.constraints }

-- the iterator of soft requirements, if it is set
abbrev pub soft_in : {Id S : Type 0} → Problem Id S → Option S
soft_in p = p.soft_requirements

-- the list of soft requirements
abbrev pub list_in : {Id S : Type 0} → Problem Id S → List (SoftRequirement Id)
list_in p = optional_items p.soft_list
