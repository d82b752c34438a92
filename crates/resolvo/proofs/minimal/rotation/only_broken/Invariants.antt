use Rattle.std.proofs.Common.{take}
use Rattle.resolvo.specs.Rotations.{BrokenIs, value_at}
use Rattle.resolvo.proofs.minimal.rotation.only_broken.Given as goal

-- of the clauses so far, the values make only clauses of this rule false, if any
abbrev pub invariant-clauses : goal.invariant-clauses
invariant-clauses l = BrokenIs (value_at l.values) l.kept (take l.index l.clauses) l.broken
