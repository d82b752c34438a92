use Rattle.std.proofs.Common.{◌≡◌, ◌++◌, length, map, string_bytes}
use Rattle.resolver_report.specs.Forests.{indent}
use Rattle.resolver_report.specs.Indents.{is_last_child}
use Rattle.resolver_report.proofs.indenter.write_levels.Given as goal

abbrev pub invariant-loop-rest : goal.invariant-loop-rest
invariant-loop-rest l = string_bytes l.out ++ indent (map is_last_child l.rest) ≡ string_bytes l.initial.out ++ indent (map is_last_child l.initial.rest)

abbrev pub decreases-loop-rest : goal.decreases-loop-rest
decreases-loop-rest l = length l.rest
