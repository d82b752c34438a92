use Rattle.std.proofs.Common.{refl}
use Rattle.resolver_clause_store.specs.declared.Rule.TheVariants.{Lock}
use Rattle.resolver_encoding.proofs.ListingLemmas.{pushed}
use Rattle.resolver_encoding.proofs.listing.Listing.lock.Goals as goal

pub returns-clause-added : goal.returns-clause-added
returns-clause-added g c = pushed c.args.self.now _ (Lock c.args.locked c.args.forbidden) c.requires c.in_ok-push.ensures.items refl
