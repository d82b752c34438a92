use Rattle.std.specs.Prelude.{◌∷◌, [], codes, slice_get, string_bytes}
use Rattle.resolver_report.specs.Messages.{reason_text}
use Rattle.resolver_report.proofs.TextLemmas.{written_3}
use Rattle.resolver_report.proofs.tree.write_exclusion.Goals as goal

pub returns-clause-ok : goal.returns-clause-ok
returns-clause-ok g c = written_3 (string_bytes c.args.out.now) (string_bytes c.push_str.new.self) (string_bytes c.write_reason_at.new.out)
    (string_bytes c.push_str-2.new.self)
    (codes " is excluded because ")
    (reason_text (g.I.Interner.universe c.args.outline.now.interner.now) (slice_get c.args.outline.now.findings.graph.now.graph.nodes c.args.reason.0))
    (10 ∷ [])
    c.in_ok-push_str.ensures.bytes c.in_ok-write_reason_at.ensures.ok c.in_ok-push_str-2.ensures.bytes
