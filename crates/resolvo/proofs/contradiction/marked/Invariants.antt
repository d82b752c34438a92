use Rattle.std.specs.List.{All}
use Rattle.resolvo.specs.Derivations.{ListsMarked, Stands}
use Rattle.resolvo.proofs.contradiction.marked.Given as goal

abbrev pub invariant-places : goal.invariant-places
invariant-places l = All (Stands l.sources) l.numbers.items × ListsMarked l.sources l.marks l.numbers.items l.place
