use Rattle.std.specs.Option.{MatchOption}
use Rattle.resolvo.specs.Attaching.{AreAlike, IsOther}
use Rattle.resolvo.proofs.propagator.attaching.best_of_all.Given as goal

abbrev pub invariant-literals : goal.invariant-literals
invariant-literals l = MatchOption l.found (AreAlike l.literals l.other l.place) (IsOther l.literals l.other)
