-- The lists of watches, as contracts see them.
use Rattle.std.specs.Prelude.{◌<◌, List, length}
use Rattle.resolver_clause_store.specs.Literals.{Literal, list_number}
use Rattle.resolver_clause_store.specs.declared.watches.Watch.{Watch}
use Rattle.resolver_clause_store.specs.declared.pairs.WatchedPair.{WatchedPair}
use Rattle.resolver_clause_store.specs.declared.watches.Watches.{Watches}

-- the fields of the struct
abbrev pub lists_of : Watches → List (List Watch)
lists_of watches = watches.lists

abbrev pub pairs_of : Watches → List WatchedPair
pairs_of watches = watches.pairs.items

-- there is a list for the literal
abbrev pub HasList : Watches → Literal → Type 0
HasList watches literal = list_number literal < length (lists_of watches)
