use Rattle.std.proofs.Common.{refl}
use Rattle.resolver_clause_store.specs.declared.Rule.TheVariants.{Requires}
use Rattle.resolver_encoding.proofs.ListingLemmas.{pushed}
use Rattle.resolver_encoding.proofs.listing.Listing.require.Goals as goal

pub returns-clause-added : goal.returns-clause-added
returns-clause-added g c = pushed c.args.self.now _
    (Requires c.args.by c.args.requirement c.args.candidates c.args.when) c.requires c.in_ok-push.ensures.items refl
