use Rattle.std.proofs.Common.{◌≡◌, ◌++◌, length, string_bytes}
use Rattle.resolver_report.specs.Messages.{conflict_text}
use Rattle.resolver_report.proofs.texts.write_conflicts.Given as goal

abbrev pub invariant-loop-rest : goal.invariant-loop-rest
invariant-loop-rest g l = string_bytes l.out ++ conflict_text (g.I.Interner.universe l.interner) l.rest ≡ string_bytes l.initial.out ++
    conflict_text (g.I.Interner.universe l.interner) l.initial.rest

abbrev pub decreases-loop-rest : goal.decreases-loop-rest
decreases-loop-rest g l = length l.rest
