-- The graph of a list of rules.
use Rattle.std.specs.Prelude.{ℕ, Bool, if◌then◌else◌, List, [], ◌∷◌, ◌++◌, map, Option, Some, None}
use Rattle.std.specs.List.{list_any, flat_map, position_or_len, swap_remove}
use Rattle.resolver_clause_store.specs.Lists.{without_repeats}
use Rattle.resolver_clause_store.specs.declared.Requirement.{Requirement}
use Rattle.resolver_report.specs.declared.graph.ConflictNode.{ConflictNode}
use Rattle.resolver_report.specs.declared.graph.ConflictNode.TheVariants.{Root, Solvable, UnresolvedDependency, Excluded as Reason}
use Rattle.resolver_report.specs.declared.graph.ConflictCause.TheVariants.{Locked, Constrains as ByConstraint, ForbidMultipleInstances, Excluded as ByExclusion}
use Rattle.resolver_report.specs.declared.graph.ConflictEdge.TheVariants.{Requires as Required, Conflict}
use Rattle.resolver_report.specs.declared.graph.Edge.{Edge}
use Rattle.resolver_report.specs.declared.graph.Link.{Link}
use Rattle.resolver_clause_store.specs.declared.By.{By}
use Rattle.resolver_clause_store.specs.declared.By.TheVariants.{Root as ByRoot, Solvable as BySolvable}
use Rattle.resolver_clause_store.specs.declared.Rule.{Rule}
use Rattle.resolver_clause_store.specs.declared.Rule.TheVariants.{Requires, Constrains, Lock, Excluded, OnePerPackage}
use Rattle.resolver_report.specs.Same.{same_node}
use Rattle.resolver_report.specs.Shapes.{ConflictShape}

abbrev pub node_by : {S : Type 0} → By S → ConflictNode S
node_by ByRoot = Root
node_by (BySolvable s) = Solvable s

-- the nodes that a rule mentions, in order
abbrev pub mentioned : {N S : Type 0} → Rule N S → List (ConflictNode S)
mentioned (Requires by requirement candidates when) = node_by by ∷ map Solvable candidates.items
mentioned (Constrains by version_set candidate) = node_by by ∷ Solvable candidate ∷ []
mentioned (Lock locked forbidden) = Solvable forbidden ∷ []
mentioned (Excluded solvable reason) = Solvable solvable ∷ Reason reason ∷ []
mentioned (OnePerPackage name instance) = Solvable instance ∷ []

abbrev pub requirement_link : {S : Type 0} → ConflictNode S → Requirement → ConflictNode S → Link S
requirement_link source requirement target = record { source = source; target = target; weight = Required requirement }

-- a requirer is linked to each candidate, or to the unresolved node if there is none
abbrev pub requirement_links : {S : Type 0} → ConflictNode S → Requirement → List S → List (Link S)
requirement_links source requirement [] = requirement_link source requirement UnresolvedDependency ∷ []
requirement_links source requirement (c ∷ cs) = map (λ d. requirement_link source requirement (Solvable d)) (c ∷ cs)

-- the last instance of a package that rules list; the rules come latest first
abbrev pub last_instance : {N S : Type 0} → (N → N → Bool) → N → List (Rule N S) → Option S
last_instance same n [] = None
last_instance same n (OnePerPackage name instance ∷ earlier) = if same name n then Some instance else last_instance same n earlier
last_instance same n (Requires by requirement candidates when ∷ earlier) = last_instance same n earlier
last_instance same n (Constrains by version_set candidate ∷ earlier) = last_instance same n earlier
last_instance same n (Lock locked forbidden ∷ earlier) = last_instance same n earlier
last_instance same n (Excluded solvable reason ∷ earlier) = last_instance same n earlier

-- an instance is linked to the one listed before it
abbrev pub instance_links : {S : Type 0} → Option S → S → List (Link S)
instance_links None instance = []
instance_links (Some before) instance = record { source = Solvable before; target = Solvable instance; weight = Conflict ForbidMultipleInstances } ∷ []

-- the links of a rule, given the rules before it, latest first
abbrev pub links_of : {N S : Type 0} → (N → N → Bool) → List (Rule N S) → Rule N S → List (Link S)
links_of same earlier (Requires by requirement candidates when) = requirement_links (node_by by) requirement candidates.items
links_of same earlier (Constrains by version_set candidate) =
    record { source = node_by by; target = Solvable candidate; weight = Conflict (ByConstraint version_set) } ∷ []
links_of same earlier (Lock locked forbidden) = record { source = Root; target = Solvable forbidden; weight = Conflict (Locked locked) } ∷ []
links_of same earlier (Excluded solvable reason) = record { source = Solvable solvable; target = Reason reason; weight = Conflict ByExclusion } ∷ []
links_of same earlier (OnePerPackage name instance) = instance_links (last_instance same name earlier) instance

abbrev pub links_after : {N S : Type 0} → (N → N → Bool) → List (Rule N S) → List (Rule N S) → List (Link S)
links_after same earlier [] = []
links_after same earlier (rule ∷ rules) = links_of same earlier rule ++ links_after same (rule ∷ earlier) rules

-- the links of all rules, in order
abbrev pub links : {N S : Type 0} → (N → N → Bool) → List (Rule N S) → List (Link S)
links same rules = links_after same [] rules

-- the root, the unresolved node, and the nodes that the rules mention, in order
abbrev pub mentions : {N S : Type 0} → List (Rule N S) → List (ConflictNode S)
mentions rules = Root ∷ UnresolvedDependency ∷ flat_map mentioned rules

-- the first mention of each node
abbrev pub first_mentions : {N S : Type 0} → (S → S → Bool) → List (Rule N S) → List (ConflictNode S)
first_mentions same rules = without_repeats (same_node same) (mentions rules)

-- some link leads to the unresolved node
abbrev pub is_entered : {S : Type 0} → (S → S → Bool) → List (Link S) → Bool
is_entered same ls = list_any (λ l. same_node same l.target UnresolvedDependency) ls

-- the place of a node
abbrev pub place_in : {S : Type 0} → (S → S → Bool) → List (ConflictNode S) → ConflictNode S → ℕ
place_in same nodes n = position_or_len (λ m. same_node same m n) nodes

-- the link as an edge between places
abbrev pub edge_in : {S : Type 0} → (S → S → Bool) → List (ConflictNode S) → Link S → Edge S
edge_in same nodes l = record { source = record { 0 = place_in same nodes l.source }; target = record { 0 = place_in same nodes l.target }; weight = l.weight }

-- the graph with these nodes and links
abbrev pub graph_with : {S : Type 0} → (S → S → Bool) → List (ConflictNode S) → List (Link S) → Option ℕ → ConflictShape S
graph_with same nodes ls unresolved = record { shape = record { nodes = nodes; edges = map (edge_in same nodes) ls }; root = 0; unresolved = unresolved }

-- The graph of a list of rules. If no edge enters the unresolved node, it is removed, and the last node takes its place.
abbrev pub graph_of : {N S : Type 0} → (N → N → Bool) → (S → S → Bool) → List (Rule N S) → ConflictShape S
graph_of same_name same rules =
    let ls = links same_name rules in
    let nodes = first_mentions same rules in
    if is_entered same ls then graph_with same nodes ls (Some 1) else graph_with same (swap_remove nodes 1 Root) ls None
