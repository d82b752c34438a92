use Rattle.std.proofs.Common.{◌≡◌, ◌∷◌, not, take}
use Rattle.std.specs.Prelude.{filter}
use Rattle.resolver_clause_store.proofs.questions.with_first.Given as goal

abbrev pub invariant-loop-x : goal.invariant-loop-x
invariant-loop-x g l = l.moved.items ≡ l.first ∷ filter (λ y. not (g.S.PartialEq.eq y l.first)) (take l.x-index l.x-items)
