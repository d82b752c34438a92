use Rattle.std.proofs.Common.{◌≡◌, arith, ℕ, subst}
use Rattle.resolver_report.specs.EdgePlaces.{AreEmpty, lists_in}
use Rattle.resolver_report.proofs.EdgePlaceLemmas.{empty_none, empty_next}
use Rattle.resolver_report.proofs.graph.empty_lists.Goals as goal

pub loop-n-init : goal.loop-n-init
loop-n-init g c = empty_none c.new-lists.result.items c.new-lists.ensures.items

pub loop-n-preserved : goal.loop-n-preserved
loop-n-preserved g c = empty_next c.loop-n._n c.loop-n.lists.items c.push.new.self.items c.new.result c.in_ok-push.ensures.items c.new.ensures.items
    c.loop-n.invariant

pub returns-clause-value : goal.returns-clause-value
returns-clause-value g c =
    let all : c.loop-n._n ≡ c.args.count = omega arith in
    let Empty : ℕ → Type 0 = λ k. AreEmpty k (lists_in c.loop-n.lists.items) in
    subst Empty all c.loop-n.invariant
