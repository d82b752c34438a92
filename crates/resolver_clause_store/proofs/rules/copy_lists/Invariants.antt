use Rattle.std.proofs.Common.{◌≡◌, take}
use Rattle.resolver_clause_store.specs.NumberedLists.{items_of}
use Rattle.resolver_clause_store.proofs.rules.copy_lists.Given as goal

abbrev pub invariant-loop-list : goal.invariant-loop-list
invariant-loop-list g l = items_of (take l.list-index l.list-items) ≡ items_of l.copies.items
