use Rattle.std.proofs.Common.{◌≡◌, map}
use Rattle.std.specs.List.{flat_map, range_with_len}
use Rattle.resolver_report.specs.ConflictGraphs.{shape_of}
use Rattle.resolver_report.specs.Implications.{implied}
use Rattle.resolver_report.specs.NodeImplications.{missing_by}
use Rattle.resolver_report.proofs.marks.all_missing.Given as goal

abbrev pub invariant-loop-n : goal.invariant-loop-n
invariant-loop-n g l = map implied l.found.items ≡ flat_map (missing_by (shape_of l.graph)) (range_with_len 0 l.n)
