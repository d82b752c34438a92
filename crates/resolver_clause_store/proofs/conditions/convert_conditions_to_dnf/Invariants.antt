use Rattle.std.specs.Prelude.{map}
use Rattle.resolver_clause_store.specs.Disjuncts.{partial_disjuncts, work_left}
use Rattle.resolver_clause_store.proofs.PartialLemmas.{IsOnTheWay}
use Rattle.resolver_clause_store.proofs.conditions.convert_conditions_to_dnf.Given as goal

abbrev pub invariant-loop-partial : goal.invariant-loop-partial
invariant-loop-partial g l = IsOnTheWay (g.I.Interner.universe l.interner) l.fn.condition l.stack.items (map (λ list. list.items) l.disjuncts.items)

abbrev pub decreases-loop-partial : goal.decreases-loop-partial
decreases-loop-partial g l = work_left (g.I.Interner.universe l.interner) (partial_disjuncts l.stack.items)
