use Rattle.std.specs.Prelude.{codes, string_bytes}
use Rattle.resolver_report.specs.Messages.{version_set_text}
use Rattle.resolver_report.proofs.TextLemmas.{written_3}
use Rattle.resolver_report.proofs.texts.write_constraint.Goals as goal

pub returns-clause-ok : goal.returns-clause-ok
returns-clause-ok g c = written_3 (string_bytes c.args.out.now) (string_bytes c.push_str.new.self) (string_bytes c.write_version_set.new.out)
    (string_bytes c.push_str-2.new.self)
    (codes "the constraint ") (version_set_text (g.I.Interner.universe c.args.interner.now) c.args.version_set) (codes " cannot be fulfilled")
    c.in_ok-push_str.ensures.bytes c.in_ok-write_version_set.ensures.ok c.in_ok-push_str-2.ensures.bytes
