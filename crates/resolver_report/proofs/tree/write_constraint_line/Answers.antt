use Rattle.std.proofs.Common.{◌++◌, ◌∷◌, []}
use Rattle.std.specs.Prelude.{codes, string_bytes}
use Rattle.resolver_report.specs.Forests.{indent_from}
use Rattle.resolver_report.specs.Indents.{levels_in}
use Rattle.resolver_report.specs.Messages.{version_set_text}
use Rattle.resolver_report.proofs.TextLemmas.{written_2, written_3}
use Rattle.resolver_report.proofs.tree.write_constraint_line.Goals as goal

pub returns-clause-memory : goal.returns-clause-memory
returns-clause-memory g c = tt

pub returns-clause-ok : goal.returns-clause-ok
returns-clause-ok g c =
    let named = version_set_text (g.I.Interner.universe c.args.interner.now) c.args.version_set in
    let rest = codes ", which conflicts with any installable versions previously reported" in
    let indented = string_bytes c.write.new.out in
    let told = string_bytes c.push_str.new.self in
    written_3 (string_bytes c.args.out.now) indented told (string_bytes c.push_str-2.new.self)
    (indent_from c.args.deeper.now.top_level_indent (levels_in c.args.deeper.now)) (named ++ rest) (10 ∷ []) c.in_ok-write.ensures.ok
    (written_2 indented (string_bytes c.write_version_set.new.out) told named rest c.in_ok-write_version_set.ensures.ok c.in_ok-push_str.ensures.bytes)
    c.in_ok-push_str-2.ensures.bytes
