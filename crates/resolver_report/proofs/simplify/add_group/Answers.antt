use Rattle.std.proofs.Common.{◌≡◌, ◌∙◌, sym, Some, None}
use Rattle.std.proofs.lemmas.Option.{MatchOption-at_none, MatchOption-at_some}
use Rattle.resolver_report.specs.Merging.{group_in}
use Rattle.std.specs.Prelude.{IsNone}
use Rattle.resolver_report.specs.Simplified.{IsGroupOf}
use Rattle.resolver_report.proofs.SimplifyLemmas.{skipped, mapped}
use Rattle.resolver_report.proofs.simplify.add_group.Goals as goal

pub returns-in_default-clause-after : goal.returns-in_default-clause-after
returns-in_default-clause-after g c =
    λ ks are before. skipped g.S.PartialEq.eq ks c.args.graph.now c.args.n c.args.groups.now (λ s e.
    let clash : None ≡ Some s = c.in_default.ensures ∙ e in absurd cc) before

pub returns-in_default-2-clause-after : goal.returns-in_default-2-clause-after
returns-in_default-2-clause-after g c = λ ks are before.
    skipped g.S.PartialEq.eq ks c.args.graph.now c.args.n c.args.groups.now
    (λ s e. MatchOption-at_none (IsNone (group_in ks c.args.n)) (IsGroupOf ks c.args.graph.now c.args.n) c.in_default-2.is
    (c.in_ok-group.ensures.value ks c.args.n are before)) before

pub returns-clause-after : goal.returns-clause-after
returns-clause-after g c = λ ks are before.
    mapped g.S.PartialEq.eq ks c.args.graph.now c.args.n c.requires.identity c.nodes-nodes.ensures.once c.in-Some.solvable
    (sym c.in-Some.ensures) c.in-Some-2.group
    (MatchOption-at_some (IsNone (group_in ks c.args.n)) (IsGroupOf ks c.args.graph.now c.args.n) c.in-Some-2.group c.in-Some-2.is
    (c.in_ok-group.ensures.value ks c.args.n are before))
    c.args.groups.now c.insert.new.self (λ q. c.in_ok-insert.ensures.updates.0 q) before
