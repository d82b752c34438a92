use Rattle.resolvo.specs.Propagation.{HasSeen}
use Rattle.resolvo.proofs.clause_state.examine.Given as goal

abbrev pub invariant-literals : goal.invariant-literals
invariant-literals l = HasSeen l.trail l.clause l.place l.last
