use Rattle.std.specs.Prelude.{ℕ}
use Rattle.resolver_clause_store.specs.Variables.{origins_in}
use Rattle.resolver_encoding.specs.Encodings.{Extends}
use Rattle.resolver_encoding.specs.Trails.{Follows, chosen_in}
use Rattle.resolver_encoding.proofs.chosen.Chosen.follow.Given as goal

abbrev pub invariant-loop-place : goal.invariant-loop-place
invariant-loop-place g l =
    ((count : ℕ) → Follows l.fn.self (origins_in l.variables) l.trail count → Follows l.self (origins_in l.variables) l.trail l.place) ×
    Extends (chosen_in l.fn.self) (chosen_in l.self)
