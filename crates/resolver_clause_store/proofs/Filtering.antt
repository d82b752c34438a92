-- A filter by a test on each element splits a list.
pub use Rattle.resolver_clause_store.specs.Filtering.{Splits-filter}
