use Rattle.std.proofs.Common.{◌≡◌, take}
use Rattle.indexmap.specs.IndexSet.{insert_all}
use Rattle.resolver_report.proofs.reached.add_all.Given as goal

abbrev pub invariant-loop-solvable : goal.invariant-loop-solvable
invariant-loop-solvable g l = l.set.keys ≡ insert_all g.S.PartialEq.eq l.initial.set.keys (take l.solvable-index l.more)
