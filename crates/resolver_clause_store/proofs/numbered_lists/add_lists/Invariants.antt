use Rattle.std.proofs.Common.{◌≡◌, ◌≤◌, ◌-◌, ℕ, length}
use Rattle.resolver_clause_store.specs.NumberedLists.{items_of, list_of}
use Rattle.resolver_clause_store.proofs.numbered_lists.add_lists.Given as goal

abbrev pub invariant-lists : goal.invariant-lists
invariant-lists g l = record {
  more : length l.initial.lists.items ≤ length l.lists.items;
  few : length l.initial.lists.items ≤ l.count → length l.lists.items ≤ l.count;
  same : (list : ℕ) → list_of (items_of l.lists.items) list ≡ list_of (items_of l.initial.lists.items) list;
}

abbrev pub decreases-lists : goal.decreases-lists
decreases-lists g l = l.count - length l.lists.items
