use Rattle.std.proofs.Common.{refl}
use Rattle.resolver_clause_store.specs.declared.Rule.TheVariants.{Excluded}
use Rattle.resolver_encoding.proofs.ListingLemmas.{pushed}
use Rattle.resolver_encoding.proofs.listing.Listing.exclude.Goals as goal

pub returns-clause-added : goal.returns-clause-added
returns-clause-added g c = pushed c.args.self.now _ (Excluded c.args.solvable c.args.reason) c.requires c.in_ok-push.ensures.items refl
