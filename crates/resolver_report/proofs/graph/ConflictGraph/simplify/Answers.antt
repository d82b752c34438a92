use Rattle.std.proofs.Common.{arith, ◌≤◌, length, refl}
use Rattle.resolver_report.specs.Merging.{keys}
use Rattle.resolver_report.proofs.SimplifyLemmas.{simplified, simplified_none}
use Rattle.resolver_report.proofs.graph.ConflictGraph.simplify.Goals as goal

pub loop-n-init : goal.loop-n-init
loop-n-init g c = simplified_none g.S.PartialEq.eq
    (keys (g.I.Interner.universe c.args.interner.now) c.args.self.now.graph) c.args.self.now.graph c.new-groups.result c.new-groups.ensures.empty

pub loop-n-preserved : goal.loop-n-preserved
loop-n-preserved g c =
    c.in_ok-add_group.ensures.after (keys (g.I.Interner.universe c.args.interner.now) c.args.self.now.graph)
    (c.class_at-class.ensures (keys (g.I.Interner.universe c.args.interner.now) c.args.self.now.graph)
    (rw c.deref-in-loop-n.ensures.value c.in_ok-keys.ensures.value)) c.loop-n.invariant

pub returns-clause-value : goal.returns-clause-value
returns-clause-value g c =
    let long : length (keys (g.I.Interner.universe c.args.interner.now) c.args.self.now.graph) ≤ c.loop-n.n =
    omega (arith, c.in_ok-keys.ensures.value.long, c.in_ok-keys.keys.ok.0, c.len-n-end.ensures) in
    simplified g.S.PartialEq.eq (g.I.Interner.universe c.args.interner.now) c.args.self.now.graph
    (keys (g.I.Interner.universe c.args.interner.now) c.args.self.now.graph) c.loop-n.n c.loop-n.groups refl long c.loop-n.invariant
