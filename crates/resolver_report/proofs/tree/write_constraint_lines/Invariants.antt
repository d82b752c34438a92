use Rattle.std.proofs.Common.{◌≡◌, ◌++◌, length, map, string_bytes}
use Rattle.resolver_report.specs.Forests.{text_of}
use Rattle.resolver_report.specs.Indents.{levels_in}
use Rattle.resolver_report.specs.Messages.{constraint_line, lines_of}
use Rattle.resolver_report.proofs.tree.write_constraint_lines.Given as goal

abbrev pub invariant-loop-rest : goal.invariant-loop-rest
invariant-loop-rest g l = string_bytes l.out ++
    text_of l.indenter.top_level_indent (levels_in l.indenter)
    (lines_of (map (constraint_line (g.I.Interner.universe l.interner)) l.rest)) ≡ string_bytes l.initial.out ++
    text_of l.indenter.top_level_indent (levels_in l.indenter) (lines_of (map (constraint_line (g.I.Interner.universe l.interner)) l.initial.rest))

abbrev pub decreases-loop-rest : goal.decreases-loop-rest
decreases-loop-rest g l = length l.rest
