use Rattle.std.specs.Prelude.{string_bytes}
use Rattle.resolver_report.specs.Indents.{is_last_child, levels_in}
use Rattle.resolver_report.specs.Messages.{constraint_line}
use Rattle.resolver_report.proofs.TreeLemmas.{constraint_step}
use Rattle.resolver_report.proofs.tree.write_next_constraint.Goals as goal

pub returns-clause-ok : goal.returns-clause-ok
returns-clause-ok g c =
    constraint_step (constraint_line (g.I.Interner.universe c.args.interner.now)) c.args.indenter.now.top_level_indent
    (levels_in c.args.indenter.now) c.args.version_set c.args.rest.now (string_bytes c.args.out.now) (string_bytes c.write_constraint_line.new.out)
    c.in_ok-deeper.deeper.top_level_indent (levels_in c.in_ok-deeper.deeper) (is_last_child c.before-order.result)
    c.in_ok-write_constraint_line.ensures.ok c.in_ok-deeper.ensures.top c.in_ok-deeper.ensures.levels c.before-order.ensures
