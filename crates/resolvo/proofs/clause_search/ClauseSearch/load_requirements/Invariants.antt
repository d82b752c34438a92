use Rattle.std.proofs.Common.{◌≡◌, ◌++◌, ℕ, List, take, length}
use Rattle.resolver_clause_store.specs.Literals.{Literal}
use Rattle.resolvo.specs.ClauseSearches.{IsConsistent, IsLoaded, IsSameSearch, numbers_of}
use Rattle.resolvo.proofs.clause_search.ClauseSearch.load_requirements.Given as goal

abbrev pub invariant-requirements : goal.invariant-requirements
invariant-requirements l = record {
  consistent : IsConsistent l.self;
  same : IsSameSearch l.initial.self l.self;
  places : l.self.places ≡ l.initial.self.places;
  count : length l.self.requirements.items ≡ l.index;
  loaded : (given : List (List Literal)) (numbers more : List ℕ) → IsLoaded given numbers l.initial.self → numbers_of l.requirements ≡ numbers ++ more →
      IsLoaded given (take l.index (numbers_of l.requirements)) l.self;
}
