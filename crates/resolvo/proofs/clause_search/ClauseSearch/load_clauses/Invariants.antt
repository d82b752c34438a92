use Rattle.std.proofs.Common.{◌≡◌, ◌++◌, ℕ, List, take, length}
use Rattle.resolver_clause_store.specs.Literals.{Literal}
use Rattle.resolvo.specs.ClauseSearches.{IsConsistent, IsLoaded, IsSameSearch}
use Rattle.resolvo.proofs.clause_search.ClauseSearch.load_clauses.Given as goal

abbrev pub invariant-clauses : goal.invariant-clauses
invariant-clauses l = record {
  consistent : IsConsistent l.self;
  same : IsSameSearch l.initial.self l.self;
  count : length l.self.places ≡ l.number;
  loaded : (given : List (List Literal)) (numbers : List ℕ) (more : List (List Literal)) → IsLoaded given numbers l.initial.self →
      l.clauses ≡ given ++ more → IsLoaded (take l.number l.clauses) numbers l.self;
}
