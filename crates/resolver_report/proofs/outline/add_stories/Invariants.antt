use Rattle.std.proofs.Common.{◌≡◌, ◌≤◌, ◌++◌, filter, length, map, reverse}
use Rattle.resolver_report.specs.ConflictGraphs.{shape_of}
use Rattle.resolver_report.specs.EdgeRuns.{run_view}
use Rattle.resolver_report.specs.Messages.{told_of_run}
use Rattle.resolver_report.specs.Outlines.{groups_in, has_viability, run_told_view}
use Rattle.resolver_report.proofs.outline.add_stories.Given as goal

abbrev pub invariant-loop-rest : goal.invariant-loop-rest
invariant-loop-rest g l =
    let told = map (told_of_run (shape_of l.findings.graph.now) (groups_in l.findings) l.findings.installable.items) in
    record {
      short : length l.rest ≤ length l.initial.rest;
      outlines : map run_told_view l.outlines.items ++ told (filter (has_viability l.findings l.wanted) (reverse (map run_view l.rest)))
          ≡ map run_told_view l.initial.outlines.items ++ told (filter (has_viability l.findings l.wanted) (reverse (map run_view l.initial.rest)));
    }

abbrev pub decreases-loop-rest : goal.decreases-loop-rest
decreases-loop-rest g l = length l.rest
