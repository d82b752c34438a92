-- The view of a clause table and that of an encoding.
use Rattle.std.specs.Prelude.{◌≡◌, map}
use Rattle.std.specs.Option.{option_map}
use Rattle.resolver_clause_store.specs.Caches.{IsTrueCache}
use Rattle.resolver_clause_store.specs.Universe.{Universe}
use Rattle.resolver_clause_store.specs.Variables.{limit_in, origins_in}
use Rattle.resolver_clause_store.specs.declared.Cache.{Cache}
use Rattle.resolver_clause_store.specs.declared.UnionEnds.{UnionEnds}
use Rattle.resolver_encoding.specs.Encodings.{Notes}
use Rattle.resolver_encoding.specs.ReadState.{Deferred}
use Rattle.resolver_encoding.specs.Tables.{Table}
use Rattle.resolver_encoding.specs.declared.encoding.Encoding.{Encoding}
use Rattle.resolver_encoding.specs.declared.disjuncts.Entry.{Entry}
use Rattle.resolver_encoding.specs.declared.table.ClauseTable.{ClauseTable}

abbrev pub entry_of : {S : Type 0} → Entry S → Deferred S
entry_of entry = record { by = entry.by; disjunct = entry.disjunct.items; requirement = entry.requirement }

abbrev pub table_in : {N S : Type 0} → ClauseTable N S → Table N S
table_in t = record {
  origins = origins_in t.variables;
  literals = t.literals;
  kinds = t.kinds;
  variable_limit = limit_in t.variables;
  clause_limit = t.clause_limit;
}

abbrev pub notes_in : {N S : Type 0} → Encoding N S → Notes N S
notes_in e = record {
  origins = origins_in e.table.variables;
  table = e.table.literals;
  kinds = e.table.kinds;
  seen = e.seen.keys;
  groups = e.groups;
  asked = e.asked.keys;
  helped = e.helped.keys;
  gates = e.gates.keys;
  constrained = e.constrained.keys;
  read = e.read.keys;
  deferred = map (option_map entry_of) e.deferred.items;
  deferred_by_name = e.deferred_by_name;
  exempt = e.exempt.keys;
  variable_limit = limit_in e.table.variables;
  clause_limit = e.table.clause_limit;
}

-- where the candidates of each version set of a union end
abbrev pub union_ends_in : {N S : Type 0} → Encoding N S → UnionEnds
union_ends_in e = e.table.union_ends

-- the provider's answers
abbrev pub cache_in : {N S : Type 0} → Encoding N S → Cache N S
cache_in e = e.cache

-- both limits stay, and so does the cache
pub record KeepsRoom {N S : Type 0} (old new : Encoding N S) : Type 0 where
  pub variables : (notes_in new).variable_limit ≡ (notes_in old).variable_limit
  pub clauses : (notes_in new).clause_limit ≡ (notes_in old).clause_limit
  pub cache : cache_in new ≡ cache_in old

-- both limits stay, and the cached answers stay true
pub record KeepsTrue {N S : Type 0} (u : Universe N S) (old new : Encoding N S) : Type 0 where
  pub variables : (notes_in new).variable_limit ≡ (notes_in old).variable_limit
  pub clauses : (notes_in new).clause_limit ≡ (notes_in old).clause_limit
  pub answers : IsTrueCache u (cache_in old) → IsTrueCache u (cache_in new)
