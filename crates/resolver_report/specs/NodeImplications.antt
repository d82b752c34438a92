-- The implications by which the nodes of a graph are marked.
use Rattle.std.specs.Prelude.{ℕ, if◌then◌else◌, List, [], ◌∷◌, map}
use Rattle.std.specs.List.{flat_map}
use Rattle.resolver_report.specs.declared.graph.NodeId.{NodeId}
use Rattle.resolver_report.specs.Causes.{has_conflict, has_exclusion}
use Rattle.resolver_report.specs.Implications.{Implied}
use Rattle.resolver_report.specs.Marks.{is_place}
use Rattle.resolver_report.specs.Runs.{Run, runs_of}
use Rattle.resolver_report.specs.Shapes.{ConflictShape, incoming, outgoing, places}

-- each node in a group of its own
abbrev pub each_alone : List NodeId → List (List NodeId)
each_alone ns = map (λ n. n ∷ []) ns

abbrev pub all_of_run : ℕ → Run → Implied
all_of_run n run = record { groups = each_alone run.targets; node = n }

-- a node can be installed if each run has a target that can be
abbrev pub installable_by : {S : Type 0} → ConflictShape S → ℕ → List Implied
installable_by g n = if is_place g.unresolved n then [] else if has_exclusion (incoming g.shape.edges n) then [] else if has_conflict
    (outgoing g.shape.edges n) then []
    else record { groups = map (λ run. run.targets) (runs_of (outgoing g.shape.edges n)); node = n } ∷ []

-- a node is missing if it is the unresolved one, or all targets of a run are missing
abbrev pub missing_by : {S : Type 0} → ConflictShape S → ℕ → List Implied
missing_by g n = if is_place g.unresolved n then record { groups = []; node = n } ∷ [] else if has_conflict (outgoing g.shape.edges n) then []
    else map (all_of_run n) (runs_of (outgoing g.shape.edges n))

abbrev pub of_each_node : {S : Type 0} → ConflictShape S → (ℕ → List Implied) → List Implied
of_each_node g by = flat_map by (places g.shape)
