use Rattle.std.proofs.Common.{map, reverse, true, false, ap}
use Rattle.resolver_report.specs.ConflictGraphs.{shape_of}
use Rattle.resolver_report.specs.Messages.{told_of_run}
use Rattle.resolver_report.specs.Runs.{runs_of}
use Rattle.resolver_report.specs.Outlines.{groups_in, has_viability, run_told_view}
use Rattle.resolver_report.proofs.OutlineLemmas.{stories_both}
use Rattle.resolver_report.proofs.outline.outlines_of.Goals as goal

pub returns-clause-value : goal.returns-clause-value
returns-clause-value g c =
    stories_both (told_of_run (shape_of c.args.findings.now.graph.now) (groups_in c.args.findings.now) c.args.findings.now.installable.items)
    (has_viability c.args.findings.now true) (has_viability c.args.findings.now false)
    (map run_told_view c.new-outlines.result.items) (map run_told_view c.add_stories.new.outlines.items) (map run_told_view c.add_stories-2.new.outlines.items)
    (reverse (runs_of c.args.edges.now))
    (ap (map run_told_view) c.new-outlines.ensures.items)
    (rw (c.deref.ensures.value, c.in_ok-runs.ensures.value) at c.in_ok-add_stories.ensures.ok)
    (rw (c.deref-2.ensures.value, c.in_ok-runs.ensures.value) at c.in_ok-add_stories-2.ensures.ok)
