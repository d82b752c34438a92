use Rattle.std.proofs.Common.{arith, sym}
use Rattle.resolver_report.specs.Plain.{HasNoOtherInstance}
use Rattle.resolver_clause_store.proofs.SetLemmas.{All-next, All-done}
use Rattle.resolver_report.proofs.plain.has_other.Goals as goal

pub loop-rule-preserved : goal.loop-rule-preserved
loop-rule-preserved g c = All-next (HasNoOtherInstance c.args.set.now c.args.name.now c.args.instance.now) c.args.rules.now c.loop-rule.rule-index
    c.rule-item.result (omega arith) c.rule-item.is c.loop-rule.invariant c.if-lists_other_instance.ensures

pub returns : goal.returns
returns g c = All-done (HasNoOtherInstance c.args.set.now c.args.name.now c.args.instance.now) c.args.rules.now c.loop-rule.rule-index
    (omega arith) c.loop-rule.invariant

pub returns-then-lists_other_instance : goal.returns-then-lists_other_instance
returns-then-lists_other_instance g c = (c.loop-rule.rule-index, c.rule-item.result, omega arith, sym c.rule-item.is, c.if-lists_other_instance.ensures)
