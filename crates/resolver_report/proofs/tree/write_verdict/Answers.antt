use Rattle.std.proofs.Common.{◌≡◌, ◌++◌, ◌∷◌, [], sym, subst, map}
use Rattle.std.specs.Prelude.{codes, string_bytes}
use Rattle.resolver_report.specs.declared.verdict.Verdict.{Verdict}
use Rattle.resolver_report.specs.Forests.{text_of}
use Rattle.resolver_report.specs.Indents.{levels_in}
use Rattle.resolver_report.specs.Messages.{constraint_line, lines_of}
use Rattle.resolver_report.specs.Tellings.{verdict_rest}
use Rattle.resolver_report.specs.Verdicts.{verdict_view}
use Rattle.resolver_report.proofs.TextLemmas.{written_2}
use Rattle.resolver_report.proofs.tree.write_verdict.Goals as goal

pub returns-in_ok-write_constraint_lines-in-Constrains-clause-ok : goal.returns-in_ok-write_constraint_lines-in-Constrains-clause-ok
returns-in_ok-write_constraint_lines-in-Constrains-clause-ok g c =
    let Wrote : Verdict → Type 0 = λ v. string_bytes c.write_constraint_lines.new.out ≡ string_bytes c.args.out.now ++
    verdict_rest g.I.Interner.universe c.args.outline.now c.args.indenter.now.top_level_indent (levels_in c.args.indenter.now) (verdict_view v) in
    subst Wrote (sym c.in-Constrains.is)
    (written_2 (string_bytes c.args.out.now) (string_bytes c.write_end-in-Constrains.new.out) (string_bytes c.write_constraint_lines.new.out)
    (codes " would constrain" ++ 10 ∷ [])
    (text_of c.args.indenter.now.top_level_indent (levels_in c.args.indenter.now)
    (lines_of (map (constraint_line (g.I.Interner.universe c.args.outline.now.interner.now)) c.in-Constrains.version_sets.items)))
    c.in_ok-write_end-in-Constrains.ensures.ok (rw c.deref.ensures.value at c.in_ok-write_constraint_lines-in-Constrains.ensures.ok))
