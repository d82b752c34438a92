use Rattle.std.proofs.Common.{◌≡◌, ◌++◌, length, map, string_bytes}
use Rattle.resolver_report.specs.Messages.{joined_texts, version_set_text}
use Rattle.resolver_report.proofs.texts.write_joined.Given as goal

abbrev pub invariant-loop-rest : goal.invariant-loop-rest
invariant-loop-rest g l = string_bytes l.out ++ joined_texts (map (version_set_text (g.I.Interner.universe l.interner)) l.rest) ≡ string_bytes l.initial.out ++
    joined_texts (map (version_set_text (g.I.Interner.universe l.interner)) l.initial.rest)

abbrev pub decreases-loop-rest : goal.decreases-loop-rest
decreases-loop-rest g l = length l.rest
