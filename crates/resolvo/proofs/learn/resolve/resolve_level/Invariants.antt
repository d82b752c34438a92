use Rattle.std.proofs.Common.{◌≤◌}
use Rattle.resolver_clause_store.specs.TrailView.{length_of}
use Rattle.resolvo.specs.Resolvents.{IsResolvent, IsLevelled}
use Rattle.resolvo.proofs.learn.resolve.resolve_level.Given as goal

abbrev pub invariant-places : goal.invariant-places
invariant-places l = (l.place ≤ length_of l.trail) × IsResolvent l.table l.trail l.resolvent × IsLevelled l.trail l.resolvent l.place

abbrev pub decreases-places : goal.decreases-places
decreases-places l = l.place
