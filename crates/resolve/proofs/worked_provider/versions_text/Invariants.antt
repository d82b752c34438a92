use Rattle.std.proofs.Common.{◌≡◌, take}
use Rattle.std.specs.Prelude.{string_bytes}
use Rattle.resolve.specs.WorkedProvider.{versions_text}
use Rattle.resolve.proofs.worked_provider.versions_text.Given as goal

abbrev pub invariant-loop-solvable : goal.invariant-loop-solvable
invariant-loop-solvable l = string_bytes l.text ≡ versions_text (take l.solvable-index l.solvables)
