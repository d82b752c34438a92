-- Edges whose target is marked.
use Rattle.std.specs.Prelude.{Bool, true, false, not, List}
use Rattle.resolver_report.specs.declared.graph.Edge.{Edge}
use Rattle.resolver_report.specs.Marks.{is_marked}

-- the target's mark is the wanted one
abbrev pub has_mark : {S : Type 0} → List Bool → Bool → Edge S → Bool
has_mark marks true e = is_marked marks e.target.0
has_mark marks false e = not (is_marked marks e.target.0)
