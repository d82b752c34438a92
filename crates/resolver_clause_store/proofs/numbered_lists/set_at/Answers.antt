use Rattle.std.proofs.Common.{refl, set}
use Rattle.resolver_clause_store.proofs.NumberedListLemmas.{puts-at}
use Rattle.resolver_clause_store.proofs.numbered_lists.set_at.Goals as goal

pub returns : goal.returns
returns g c = puts-at _ _ _ _ (λ xs. set xs c.args.place c.args.item) c.index_mut.ensures.value c.requires.number refl
