use Rattle.std.proofs.Common.{ap}
use Rattle.std.specs.Prelude.{map}
use Rattle.resolver_clause_store.proofs.PartialLemmas.{map-push, emptied, start, finish_top, finish_less, put_top, put_less, whole}
use Rattle.resolver_clause_store.proofs.conditions.convert_conditions_to_dnf.Goals as goal

pub loop-partial-init : goal.loop-partial-init
loop-partial-init g c =
    let u = g.I.Interner.universe c.args.interner.now in
    start u c.args.condition c.new-whole.result.items c.new-stack.result.items c.push-2.new.self.items (map (λ list. list.items) c.new-disjuncts.result.items)
    (record {
      pending = c.push.new.self;
      chosen = c.new.result;
    }) c.new-stack.ensures.items c.in_ok-push-2.ensures.items c.new-whole.ensures.items c.in_ok-push.ensures.items c.new.ensures.items
    (ap (map (λ list. list.items)) c.new-disjuncts.ensures.items)

pub loop-partial-smaller-in_default-pop : goal.loop-partial-smaller-in_default-pop
loop-partial-smaller-in_default-pop g c =
    let u = g.I.Interner.universe c.args.interner.now in
    finish_less u c.args.condition c.loop-partial.stack.items c.pop.new.self.items c.in-Some.partial c.in-Some.ensures.items
    (emptied c.in-Some.partial.pending.items c.pop-in-Some.new.self.items _ c.in_default-pop.ensures.cases.0 c.in_default-pop.ensures.items
    c.in_default-pop.ensures.rest)

pub loop-partial-preserved-in_default-pop : goal.loop-partial-preserved-in_default-pop
loop-partial-preserved-in_default-pop g c =
    let u = g.I.Interner.universe c.args.interner.now in
    finish_top u c.args.condition c.loop-partial.stack.items c.pop.new.self.items c.in-Some.partial c.in-Some.ensures.items _ _
    (emptied c.in-Some.partial.pending.items c.pop-in-Some.new.self.items _ c.in_default-pop.ensures.cases.0 c.in_default-pop.ensures.items
    c.in_default-pop.ensures.rest)
    (map-push (λ list. list.items) c.loop-partial.disjuncts.items c.push-in_default-pop.new.self.items c.in-Some.partial.chosen
    c.in_ok-push-3.ensures.items) c.loop-partial.invariant

pub loop-partial-smaller : goal.loop-partial-smaller
loop-partial-smaller g c =
    let u = g.I.Interner.universe c.args.interner.now in
    put_less u c.args.condition c.loop-partial.stack.items c.pop.new.self.items c.in-Some.partial c.in-Some.ensures.items c.in-Some-pop.next
    c.pop-in-Some.new.self.items c.put.new.stack.items c.in-Some-pop.ensures.items c.in_ok-put.ensures.closer

pub loop-partial-preserved : goal.loop-partial-preserved
loop-partial-preserved g c =
    let u = g.I.Interner.universe c.args.interner.now in
    put_top u c.args.condition c.loop-partial.stack.items c.pop.new.self.items c.in-Some.partial c.in-Some.ensures.items c.in-Some-pop.next
    c.pop-in-Some.new.self.items c.put.new.stack.items c.in-Some-pop.ensures.items c.in_ok-put.ensures.closer _ c.loop-partial.invariant

pub returns-clause-value : goal.returns-clause-value
returns-clause-value g c =
    let u = g.I.Interner.universe c.args.interner.now in
    whole u c.args.condition c.loop-partial.stack.items _
    (emptied c.loop-partial.stack.items c.pop.new.self.items _ c.in_default.ensures.cases.0 c.in_default.ensures.items c.in_default.ensures.rest)
    c.loop-partial.invariant
