use Rattle.std.proofs.Common.{◌≡◌, take, map, filter}
use Rattle.std.specs.Prelude.{nat_eq}
use Rattle.resolve.specs.WorkedProvider.{demand_of}
use Rattle.resolve.specs.declared.worked_provider.TheConstants.{DEPENDENCIES}
use Rattle.resolve.proofs.worked_provider.required_by.Given as goal

abbrev pub invariant-loop-release : goal.invariant-loop-release
invariant-loop-release l = l.required.items ≡ map demand_of (filter (λ d. nat_eq d.0 l.solvable) (take l.release-index DEPENDENCIES))
