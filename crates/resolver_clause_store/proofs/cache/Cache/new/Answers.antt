use Rattle.resolver_clause_store.proofs.CacheLemmas.{IsTrueCache-empty}
use Rattle.resolver_clause_store.proofs.cache.Cache.new.Goals as goal

pub returns : goal.returns
returns g c = λ u. IsTrueCache-empty u _ c.new.ensures.empty c.new-2.ensures.empty c.new-3.ensures.empty c.new-4.ensures.empty c.new-5.ensures.empty
