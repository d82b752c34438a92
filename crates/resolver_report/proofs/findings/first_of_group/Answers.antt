use Rattle.std.proofs.Common.{◌≡◌, ◌∙◌, sym, ap, arith, length, get_or}
use Rattle.std.specs.Prelude.{Some}
use Rattle.resolver_report.specs.declared.graph.ConflictNode.TheVariants.{Solvable}
use Rattle.resolver_report.specs.Graphs.{place_in}
use Rattle.resolver_report.specs.Merging.{group_in, keys}
use Rattle.resolver_report.proofs.GroupLemmas.{some_first, found_first}
use Rattle.resolver_clause_store.proofs.ListLemmas.{is_none as none_is}
use Rattle.resolver_report.proofs.findings.first_of_group.Goals as goal

pub returns-in_default : goal.returns-in_default
returns-in_default g c =
    let ks = keys (g.I.Interner.universe c.args.interner.now) c.args.graph.now.graph in
    sym (none_is (group_in ks c.args.n) (rw c.in_default.is at c.group_at_node.ensures))

pub returns-then-len-eq0 : goal.returns-then-len-eq0
returns-then-len-eq0 g c =
    let none : length c.in-Some.group.now.value.ids.items ≡ 0 = omega (arith, ap (λ m. length m.ids.items) c.deref.ensures, c.len.ensures, c.if-len-eq0.true) in
    absurd (some_first (g.I.Interner.universe c.args.interner.now) c.args.graph.now.graph c.args.n c.in-Some.group.now
    (rw c.in-Some.is at c.group_at_node.ensures) none)

pub returns : goal.returns
returns g c =
    let s = c.index-first.result.now in
    ap Some (c.place.ensures ∙ ap (λ ns. place_in g.I.SolvableId.PartialEq.eq ns (Solvable s)) c.nodes-nodes.ensures.value)
    ∙ found_first (g.I.Interner.universe c.args.interner.now) c.args.graph.now.graph g.I.SolvableId.PartialEq.eq g.met.I.Interner.solvables_are_values
    c.nodes-nodes.ensures.once c.args.n c.in-Some.group.now s
    (rw c.in-Some.is at c.group_at_node.ensures) (c.index-first.ensures ∙ ap (λ m. get_or m.ids.items 0 s) c.deref-2.ensures)
