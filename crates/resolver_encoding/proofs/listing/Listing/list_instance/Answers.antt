use Rattle.resolver_encoding.proofs.ListingLemmas.{marked_before, marked_first}
use Rattle.resolver_encoding.proofs.listing.Listing.list_instance.Goals as goal

pub returns-then-is_among-clause-added : goal.returns-then-is_among-clause-added
returns-then-is_among-clause-added g c =
    marked_before c.args.self.now (record { name = c.args.name; instance = c.args.instance }) c.requires.instances c.if-is_among.ensures

pub returns-clause-added : goal.returns-clause-added
returns-clause-added g c = marked_first c.args.self.now _
    (record { name = c.args.name; instance = c.args.instance }) c.requires.instances c.in_ok-push.ensures.items c.in_ok-append.ensures.keys
