-- The links of a rule, given the last listed instance of each package.
use Rattle.std.specs.Prelude.{Bool, if◌then◌else◌, List, [], ◌∷◌, Option, Some}
use Rattle.resolver_report.specs.declared.graph.ConflictNode.TheVariants.{Root, Solvable, Excluded as Reason}
use Rattle.resolver_report.specs.declared.graph.ConflictCause.TheVariants.{Locked, Constrains as ByConstraint, Excluded as ByExclusion}
use Rattle.resolver_report.specs.declared.graph.ConflictEdge.TheVariants.{Conflict}
use Rattle.resolver_report.specs.declared.graph.Link.{Link}
use Rattle.resolver_clause_store.specs.declared.Rule.{Rule}
use Rattle.resolver_clause_store.specs.declared.Rule.TheVariants.{Requires, Constrains, Lock, Excluded, OnePerPackage}
use Rattle.resolver_report.specs.Graphs.{node_by, requirement_links, instance_links}

abbrev pub links_with_last : {N S : Type 0} → (N → Option S) → Rule N S → List (Link S)
links_with_last last (Requires by requirement candidates when) = requirement_links (node_by by) requirement candidates.items
links_with_last last (Constrains by version_set candidate) =
    record { source = node_by by; target = Solvable candidate; weight = Conflict (ByConstraint version_set) } ∷ []
links_with_last last (Lock locked forbidden) = record { source = Root; target = Solvable forbidden; weight = Conflict (Locked locked) } ∷ []
links_with_last last (Excluded solvable reason) = record { source = Solvable solvable; target = Reason reason; weight = Conflict ByExclusion } ∷ []
links_with_last last (OnePerPackage name instance) = instance_links (last name) instance

-- the last listed instance of a package after a rule, if it was `last` before
abbrev pub last_after : {N S : Type 0} → (N → N → Bool) → Rule N S → N → Option S → Option S
last_after same (OnePerPackage name instance) n last = if same name n then Some instance else last
last_after same (Requires by requirement candidates when) n last = last
last_after same (Constrains by version_set candidate) n last = last
last_after same (Lock locked forbidden) n last = last
last_after same (Excluded solvable reason) n last = last
