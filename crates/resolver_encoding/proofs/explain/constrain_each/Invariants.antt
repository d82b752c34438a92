use Rattle.std.proofs.Common.{◌≡◌, take}
use Rattle.resolver_encoding.specs.Listing.{AddsRules, SomeOf}
use Rattle.resolver_clause_store.specs.Statements.{constrains}
use Rattle.resolver_encoding.proofs.explain.constrain_each.Given as goal

abbrev pub invariant-loop-candidate : goal.invariant-loop-candidate
invariant-loop-candidate g l = AddsRules (SomeOf (take l.candidate-index l.candidates) (λ s st. st ≡ constrains l.by l.version_set s)) l.fn.listing l.listing
