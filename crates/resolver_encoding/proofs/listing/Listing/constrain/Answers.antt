use Rattle.std.proofs.Common.{refl}
use Rattle.resolver_clause_store.specs.declared.Rule.TheVariants.{Constrains}
use Rattle.resolver_encoding.proofs.ListingLemmas.{pushed}
use Rattle.resolver_encoding.proofs.listing.Listing.constrain.Goals as goal

pub returns-clause-added : goal.returns-clause-added
returns-clause-added g c = pushed c.args.self.now _ (Constrains c.args.by c.args.version_set c.args.candidate) c.requires c.in_ok-push.ensures.items refl
