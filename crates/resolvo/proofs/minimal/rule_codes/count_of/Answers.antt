use Rattle.resolver_clause_store.proofs.PlaceLemmas.{AreDistinct-from}
use Rattle.resolvo.proofs.minimal.rule_codes.count_of.Goals as goal

pub returns-clause-distinct : goal.returns-clause-distinct
returns-clause-distinct g c = AreDistinct-from _ c.requires _ c.len.ensures.unique
