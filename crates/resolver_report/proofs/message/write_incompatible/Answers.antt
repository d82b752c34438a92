use Rattle.std.proofs.Common.{◌++◌, ◌∷◌, [], true}
use Rattle.std.specs.Prelude.{codes, string_bytes}
use Rattle.resolver_report.specs.Forests.{text_of}
use Rattle.resolver_report.specs.Messages.{conflict_text, tree}
use Rattle.resolver_report.specs.Tellings.{graph_in, keys_in, marks_in}
use Rattle.resolver_report.proofs.TextLemmas.{written_3}
use Rattle.resolver_report.proofs.message.write_incompatible.Goals as goal

pub returns-clause-ok : goal.returns-clause-ok
returns-clause-ok g c =
    let u = g.I.Interner.universe c.args.outline.now.interner.now in
    written_3 (string_bytes c.args.out.now) (string_bytes c.write_end.new.out) (string_bytes c.tell_edges.new.out) (string_bytes c.write_conflicts.new.out)
    (codes "The following packages are incompatible" ++ 10 ∷ [])
    (text_of true [] (tree u (graph_in g.I.Interner.universe c.args.outline.now) (keys_in g.I.Interner.universe c.args.outline.now)
    (marks_in g.I.Interner.universe c.args.outline.now) c.args.edges.now))
    (conflict_text u c.args.root_edges.now)
    c.in_ok-write_end.ensures.ok c.in_ok-tell_edges.ensures.ok c.in_ok-write_conflicts.ensures.ok
