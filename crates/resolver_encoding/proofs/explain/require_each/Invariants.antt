use Rattle.std.proofs.Common.{◌≡◌, [], take}
use Rattle.resolver_clause_store.specs.declared.By.TheVariants.{Solvable as BySolvable}
use Rattle.resolver_encoding.specs.Listing.{AddsRules, SomeOf}
use Rattle.resolver_clause_store.specs.Statements.{requires}
use Rattle.resolver_encoding.proofs.explain.require_each.Given as goal

abbrev pub invariant-loop-requirer : goal.invariant-loop-requirer
invariant-loop-requirer g l = AddsRules
    (SomeOf (take l.requirer-index l.requirers) (λ s st. st ≡ requires (BySolvable s) l.requirement l.candidates [])) l.fn.listing l.listing
