use Rattle.std.proofs.Common.{◌≡◌, filter}
use Rattle.std.specs.List.{range_with_len}
use Rattle.resolve.specs.WorkedProvider.{is_of}
use Rattle.resolve.proofs.worked_provider.releases_of.Given as goal

abbrev pub invariant-loop-solvable : goal.invariant-loop-solvable
invariant-loop-solvable l = l.listed.items ≡ filter (is_of l.name) (range_with_len 0 l.solvable)
