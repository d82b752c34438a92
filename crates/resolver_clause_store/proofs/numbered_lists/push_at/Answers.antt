use Rattle.std.proofs.Common.{◌∷◌, ◌++◌, []}
use Rattle.resolver_clause_store.proofs.NumberedListLemmas.{puts-at, same-at}
use Rattle.resolver_clause_store.proofs.ResultLemmas.{refused-any}
use Rattle.resolver_clause_store.proofs.numbered_lists.push_at.Goals as goal

pub returns-in_err-push-clause-unchanged : goal.returns-in_err-push-clause-unchanged
returns-in_err-push-clause-unchanged g c = refused-any _ _ (same-at _ _ _ _ c.index_mut.ensures.value c.in_err-push.ensures.items)

pub returns-clause-pushed : goal.returns-clause-pushed
returns-clause-pushed g c =
    puts-at _ _ _ _ (λ xs. xs ++ c.args.item ∷ []) c.index_mut.ensures.value c.requires c.in_ok-push.ensures.items
