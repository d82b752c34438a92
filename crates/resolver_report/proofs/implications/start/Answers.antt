use Rattle.std.proofs.Common.{arith, length, map}
use Rattle.std.proofs.lemmas.List.{length-map}
use Rattle.resolver_report.specs.Implications.{implied}
use Rattle.resolver_report.specs.WorkLists.{work_view}
use Rattle.resolver_report.proofs.WorkLemmas.{start_next}
use Rattle.resolver_report.proofs.implications.start.Goals as goal

pub loop-place-preserved : goal.loop-place-preserved
loop-place-preserved c = start_next (map implied c.args.implications.now) (work_view c.loop-place.marking) (work_view c.advance.new.marking) c.loop-place.place
    (length c.args.marking.now.marks.items)
    (omega (arith, c.loop-place-test.true, length-map c.args.implications.now implied)) c.in_ok-advance.ensures.ok c.loop-place.invariant
