use Rattle.resolve.proofs.FrontLemmas.{WritesTo}
use Rattle.resolve.proofs.run.write_front.Given as goal

abbrev pub invariant-loop : goal.invariant-loop
invariant-loop g l = WritesTo (g.E.Write.contents l.fn.errors) (g.E.Write.contents l.errors) l.text l.rest
