use Rattle.std.proofs.Common.{[]}
use Rattle.resolver_clause_store.proofs.NumberedListLemmas.{puts-at}
use Rattle.resolver_clause_store.proofs.numbered_lists.clear_at.Goals as goal

pub returns : goal.returns
returns g c = puts-at _ _ _ _ (λ xs. []) c.index_mut.ensures.value c.requires c.clear.ensures.items
