use Rattle.resolve.specs.NotingProvider.{test_universe}
use Rattle.resolve.proofs.store_tests.cache.empty_cache.Goals as goal

pub returns : goal.returns
returns c = c.new.ensures (test_universe c.args.provider.now.members.items)
