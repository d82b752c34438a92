use Rattle.std.proofs.Common.{arith}
use Rattle.std.proofs.lemmas.List.Elements.{All-nil}
use Rattle.resolvo.specs.Derivations.{Stands}
use Rattle.resolvo.proofs.CoreLemmas.{lists-more}
use Rattle.resolvo.proofs.contradiction.marked.Goals as goal

pub places-init : goal.places-init
places-init c = (rw c.new-numbers.ensures.items (All-nil (Stands c.args.sources.now)), λ p n below m is. absurd (omega arith))

pub places-preserved : goal.places-preserved
places-preserved c = (c.in_ok-add_marked.ensures.only c.places.invariant.0, lists-more _ _ _ _ _ c.in_ok-add_marked.ensures c.places.invariant.1)

pub returns : goal.returns
returns c = record { stand = c.places.invariant.0; each = λ p n below m is. c.places.invariant.1 p n (omega arith) m is }
