use Rattle.std.proofs.Common.{◌≡◌, ◌∙◌, ◌++◌, [], ap, map, true, length}
use Rattle.std.specs.Prelude.{string_bytes}
use Rattle.resolver_report.specs.Forests.{text_of}
use Rattle.resolver_report.specs.Merging.{group_in}
use Rattle.resolver_report.specs.Messages.{told_of, unmarked}
use Rattle.resolver_report.specs.Outlines.{groups_in, run_told_view}
use Rattle.resolver_report.specs.Tellings.{graph_in, keys_in, marks_in, tree_in}
use Rattle.resolver_report.proofs.tree.tell_edges.Goals as goal

pub returns-clause-ok : goal.returns-clause-ok
returns-clause-ok g c =
    let s = c.args.outline.now in
    let shape = graph_in g.I.Interner.universe s in
    let ks = keys_in g.I.Interner.universe s in
    let marks = marks_in g.I.Interner.universe s in
    let same_groups : groups_in s.findings ≡ group_in ks = λ i n. c.requires.found_groups n i in
    let runs : map run_told_view c.deref.result.now ≡ told_of shape (group_in ks) marks c.args.edges.now =
    ap (map run_told_view) c.deref.ensures.value ∙ c.in_ok-runs.ensures.value ∙
    (λ i. told_of shape (same_groups i) (c.requires.found_marks i) c.args.edges.now) in
    c.in_ok-tell_tree.ensures.text
    ∙ (λ i. string_bytes c.args.out.now ++
    text_of c.args.top_level_indent []
    (tree_in g.I.Interner.universe s (length shape.shape.nodes) (unmarked shape.shape) true (runs i) (unmarked shape.shape)).value)
