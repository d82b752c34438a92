use Rattle.std.proofs.Common.{◌<◌}
use Rattle.resolvo.specs.Resolvents.{IsResolved}
use Rattle.resolvo.proofs.learn.minimize.minimize.Given as goal

abbrev pub invariant-implied : goal.invariant-implied
invariant-implied l = IsResolved l.table l.trail l.resolvent × (0 < l.resolvent.level)
