use Rattle.std.proofs.Common.{take}
use Rattle.resolver_clause_store.specs.Caches.{IsTrueCache}
use Rattle.resolver_encoding.specs.Listing.{AreRulesOf, HasInstances, SomeOf, States}
use Rattle.resolver_encoding.specs.Values.{kinds_at}
use Rattle.resolver_encoding.proofs.explain.rules_of_clauses.Given as goal

abbrev pub invariant-loop-number : goal.invariant-loop-number
invariant-loop-number g l = record {
  is_true : IsTrueCache (g.D.Interner.universe l.provider) l.cache;
  instances : HasInstances l.listing;
  rules : AreRulesOf (SomeOf (kinds_at l.kinds (take l.number-index l.numbers)) (States (g.D.Interner.universe l.provider)
      (record { names = l.sources-inside.names.keys; members = l.sources-inside.members }))) l.listing.rules.items;
}
