use Rattle.std.proofs.Common.{◌≡◌, ◌∙◌, [], List, ap, sym, subst, length}
use Rattle.resolver_clause_store.specs.Rules.{IsRefuted}
use Rattle.resolver_clause_store.specs.declared.Rule.{Rule}
use Rattle.resolvo.specs.Minimal.{LeavesInTurn, only_marked}
use Rattle.resolvo.proofs.MinimalLemmas.{all_left, all_marked, underway_first}
use Rattle.std.proofs.lemmas.List.{length-replicate}
use Rattle.resolvo.proofs.minimal.left_by.Goals as goal

pub returns-in-Obeyed-clause-left : goal.returns-in-Obeyed-clause-left
returns-in-Obeyed-clause-left g c =
    let rules = c.args.rules.now in
    let whole : only_marked c.in_ok-all.all.items rules ≡ rules = ap (λ q. only_marked q rules) (c.in_ok-all.ensures.items_if_clones_equal (λ y is. is)) ∙
    all_marked rules in
    let marks : only_marked c.deref.result.now rules ≡ rules = ap (λ q. only_marked q rules) c.deref.ensures.value ∙ whole in
    let Left : List (Rule g.row.N.Denot g.row.S.Denot) → Type 0 = λ q. LeavesInTurn [] rules q in
    let Obeyed : List (Rule g.row.N.Denot g.row.S.Denot) → Type 0 = λ q. IsRefuted q → ⊥ in
    subst Left (sym whole) (all_left rules [] (subst Obeyed marks (rw c.in-Obeyed.is at c.in_ok-core.ensures.verdict)))

pub returns-in_ok-kept-in-Refuted-clause-memory : goal.returns-in_ok-kept-in-Refuted-clause-memory
returns-in_ok-kept-in-Refuted-clause-memory g c = tt

pub returns-in-Obeyed-clause-memory : goal.returns-in-Obeyed-clause-memory
returns-in-Obeyed-clause-memory g c = tt

pub returns-in_ok-kept-in-Refuted-clause-left : goal.returns-in_ok-kept-in-Refuted-clause-left
returns-in_ok-kept-in-Refuted-clause-left g c = c.in_ok-kept-in-Refuted.ensures.left

pub returns-in_ok-kept-in-Refuted-clause-size : goal.returns-in_ok-kept-in-Refuted-clause-size
returns-in_ok-kept-in-Refuted-clause-size g c = c.in_ok-kept-in-Refuted.ensures.size

pub returns-in-Obeyed-clause-size : goal.returns-in-Obeyed-clause-size
returns-in-Obeyed-clause-size g c = ap length (c.in_ok-all.ensures.items_if_clones_equal (λ y is. is)) ∙ length-replicate _ _

pub verdict_on-requires-clause-size : goal.verdict_on-requires-clause-size
verdict_on-requires-clause-size g c =
    ap length c.deref.ensures.value ∙ (ap length (c.in_ok-all.ensures.items_if_clones_equal (λ y is. is)) ∙ length-replicate _ _)

pub take_turns-requires-clause-underway : goal.take_turns-requires-clause-underway
take_turns-requires-clause-underway g c =
    underway_first c.args.rules.now c.in-Refuted.core.items c.deref.result.now (rw c.in-Refuted.is at c.in_ok-core.ensures.verdict)
