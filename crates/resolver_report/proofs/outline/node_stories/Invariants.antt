use Rattle.std.proofs.Common.{◌≡◌, map}
use Rattle.std.specs.List.{range_with_len}
use Rattle.resolver_report.specs.ConflictGraphs.{shape_of}
use Rattle.resolver_report.specs.Outlines.{groups_in, node_told, node_view}
use Rattle.resolver_report.proofs.outline.node_stories.Given as goal

abbrev pub invariant-loop-n : goal.invariant-loop-n
invariant-loop-n g l = map node_view l.outlines.items ≡ map (node_told (shape_of l.findings.graph.now) (groups_in l.findings) l.findings.installable.items)
    (range_with_len 0 l.n)
