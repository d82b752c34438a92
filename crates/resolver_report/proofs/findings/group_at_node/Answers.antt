use Rattle.std.proofs.Common.{◌∙◌, sym}
use Rattle.std.specs.HashMap.{get}
use Rattle.std.specs.Prelude.{IsNone}
use Rattle.resolver_report.specs.Merging.{group_in, keys}
use Rattle.resolver_report.specs.Simplified.{IsGroupOf}
use Rattle.resolver_report.proofs.GroupLemmas.{is_none, match_found, no_group}
use Rattle.resolver_report.proofs.findings.group_at_node.Goals as goal

pub returns-in_default : goal.returns-in_default
returns-in_default g c =
    let ks = keys (g.I.Interner.universe c.args._interner.now) c.args.graph.now.graph in
    is_none (group_in ks c.args.n)
    (no_group (g.I.Interner.universe c.args._interner.now) c.args.graph.now.graph c.args.n (sym c.solvable_at.ensures ∙ c.in_default.is))

pub returns : goal.returns
returns g c =
    let ks = keys (g.I.Interner.universe c.args._interner.now) c.args.graph.now.graph in
    match_found c.mapped.result (λ group. group.now) (get g.I.SolvableId.PartialEq.eq c.args.groups.now c.in-Some.solvable) (IsNone (group_in ks c.args.n))
    (IsGroupOf ks c.args.graph.now.graph c.args.n)
    c.mapped.ensures (c.requires.members c.args.n c.in-Some.solvable (sym c.solvable_at.ensures ∙ c.in-Some.is))
