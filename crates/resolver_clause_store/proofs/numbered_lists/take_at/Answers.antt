use Rattle.std.proofs.Common.{◌∙◌, ap, arith, length}
use Rattle.std.specs.List.{swap_remove}
use Rattle.resolver_clause_store.proofs.NumberedListLemmas.{puts-at, read-is, taken-default}
use Rattle.resolver_clause_store.proofs.numbered_lists.take_at.Goals as goal

pub returns : goal.returns
returns g c = λ any.
    puts-at _ _ _ _ (λ xs. swap_remove xs c.args.place any) c.index_mut.ensures.value c.requires.number
    (c.swap_remove-taken.ensures.items ∙
    taken-default _ _ _ _ (omega (arith, c.requires.place, ap length (read-is _ _ _ c.index_mut.ensures.value c.requires.number))))
