use Rattle.std.proofs.lemmas.Grind.{common_steps}
use Rattle.std.proofs.Common.{◌≡◌, ap, arith, length}
use Rattle.resolver_report.proofs.KeyLemmas.{keys_told}
use Rattle.resolver_report.specs.contracts.graph.SideOrd.TheImpl.{cmp-value}
use Rattle.resolver_report.proofs.keys.keys_of.Goals as goal

pub returns-clause-value : goal.returns-clause-value
returns-clause-value g c =
    let size : length c.nodes-n-end.result.now ≡ length c.args.graph.now.nodes = ap length c.nodes-n-end.ensures.value in
    let long : length c.loop-n.found.items ≡ length c.args.graph.now.nodes = omega (arith, c.loop-n.invariant.long, size) in
    keys_told cmp-value.it (g.I.Interner.universe c.args.interner.now) c.args.graph.now c.loop-n.found.items long (λ n lt.
    c.loop-n.invariant.each n (omega (arith, c.loop-n.invariant.long, long, lt)))

pub loop-n-preserved : goal.loop-n-preserved
loop-n-preserved g c = grind (arith, common_steps)

pub returns-clause-memory : goal.returns-clause-memory
returns-clause-memory g c = grind (arith, common_steps)

pub returns-in_err-key_at-clause-memory : goal.returns-in_err-key_at-clause-memory
returns-in_err-key_at-clause-memory g c = grind (arith, common_steps)

pub returns-in_err-key_at-clause-value : goal.returns-in_err-key_at-clause-value
returns-in_err-key_at-clause-value g c = grind (arith, common_steps)

pub returns-in_err-push-clause-memory : goal.returns-in_err-push-clause-memory
returns-in_err-push-clause-memory g c = grind (arith, common_steps)

pub returns-in_err-push-clause-value : goal.returns-in_err-push-clause-value
returns-in_err-push-clause-value g c = grind (arith, common_steps)
