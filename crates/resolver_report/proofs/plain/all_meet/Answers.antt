use Rattle.std.proofs.Common.{arith}
use Rattle.std.proofs.lemmas.List.Elements.{All-map}
use Rattle.resolver_clause_store.specs.Lists.{Meets}
use Rattle.resolver_clause_store.proofs.SetLemmas.{All-next, All-done, Contains-item}
use Rattle.resolver_report.proofs.SearchLemmas.{AllMeet-none}
use Rattle.resolver_report.proofs.plain.all_meet.Goals as goal

pub loop-list-preserved : goal.loop-list-preserved
loop-list-preserved g c = All-next (λ list. Meets list.items c.args.set.now) c.args.lists.now c.loop-list.list-index c.list-item.result
    (omega arith) c.list-item.is c.loop-list.invariant (rw c.deref.ensures.value at c.if-not-meets.ensures)

pub returns : goal.returns
returns g c = All-map (λ xs. Meets xs c.args.set.now) (λ list. list.items) c.args.lists.now
    (All-done (λ list. Meets list.items c.args.set.now) c.args.lists.now c.loop-list.list-index (omega arith) c.loop-list.invariant)

pub returns-then-not-meets : goal.returns-then-not-meets
returns-then-not-meets g c = AllMeet-none c.args.lists.now c.args.set.now c.list-item.result
    (Contains-item c.args.lists.now c.loop-list.list-index c.list-item.result (omega arith) c.list-item.is) (rw c.deref.ensures.value at c.if-not-meets.ensures)
