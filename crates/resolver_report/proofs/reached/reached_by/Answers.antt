use Rattle.std.proofs.Common.{◌∙◌, ap, arith}
use Rattle.indexmap.specs.IndexSet.{insert_all}
use Rattle.resolver_report.proofs.ReachingLemmas.{falls_next, underway_done, underway_first, underway_next}
use Rattle.resolver_report.proofs.reached.reached_by.Goals as goal

pub loop-next-init : goal.loop-next-init
loop-next-init g c =
    underway_first g.S.PartialEq.eq c.requires g.met.S.Eq.laws c.args.rules.now c.new-set.result.keys c.add_all.new.set.keys c.deref.result.now
    c.new-set.ensures.empty (c.deref.ensures.value ∙ c.in_ok-candidate_lists.ensures.value.root) c.in_ok-add_all.ensures.added

pub loop-next-smaller : goal.loop-next-smaller
loop-next-smaller g c =
    falls_next g.S.PartialEq.eq c.requires g.met.S.Eq.laws c.args.rules.now c.loop-next.set.keys c.add_candidates_of.new.set.keys c.loop-next.next
    c.index-solvable.result.now c.index-solvable.ensures
    (c.in_ok-add_candidates_of.ensures.added ∙
    ap (insert_all g.S.PartialEq.eq c.loop-next.set.keys) (c.in_ok-candidate_lists.ensures.value.solvables c.index-solvable.result.now))

pub loop-next-preserved : goal.loop-next-preserved
loop-next-preserved g c =
    underway_next g.S.PartialEq.eq c.requires g.met.S.Eq.laws c.args.rules.now c.loop-next.set.keys c.add_candidates_of.new.set.keys c.loop-next.next
    c.index-solvable.result.now c.index-solvable.ensures
    (c.in_ok-add_candidates_of.ensures.added ∙
    ap (insert_all g.S.PartialEq.eq c.loop-next.set.keys) (c.in_ok-candidate_lists.ensures.value.solvables c.index-solvable.result.now)) c.loop-next.invariant

pub returns-clause-reached : goal.returns-clause-reached
returns-clause-reached g c = underway_done g.S.PartialEq.eq c.requires g.met.S.Eq.laws c.args.rules.now c.loop-next.set.keys c.loop-next.next
    (omega arith) c.loop-next.invariant
