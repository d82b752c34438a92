-- The view that callers have of a solver.
use Rattle.std.specs.Prelude.{◌≡◌, ◌+◌, ◌-◌, ◌≤◌, ◌^◌, ◌⊎◌, ℕ, List, length, min}
use Rattle.resolver_clause_store.specs.Universe.{Universe}
use Rattle.resolver_clause_store.specs.Caches.{IsTrueCache}
use Rattle.resolver_clause_store.specs.Variables.{AreDistinct}
use Rattle.resolver_encoding.specs.SoFar.{left_count}
use Rattle.resolvo.specs.ClauseSearches.{learnt_count_of}
use Rattle.resolvo.specs.RoundStates.{notes_of, search_of}
use Rattle.resolvo.specs.declared.rounds.Rounds.{Rounds}
use Rattle.resolvo.specs.declared.solver.Solver.{Solver}

module _ {D C N S : Type 0} where
  abbrev pub provider_in : Solver D C N S → D
  provider_in s = s.provider

  -- the state in which the last search ended
  abbrev pub rounds_in : Solver D C N S → Rounds N S
  rounds_in s = s.rounds

  -- the number of its clauses, with the learnt ones, as far as it fits its type
  abbrev pub clause_count_in : Solver D C N S → ℕ
  clause_count_in s = min (length s.rounds.encoding.table.kinds + learnt_count_of s.rounds.search) (2 ^ 64 - 1)

  -- the number of its deferred disjuncts
  abbrev pub deferred_count_in : Solver D C N S → ℕ
  deferred_count_in s = left_count (notes_of s.rounds)

  -- the exempt soft requirements of the last answer
  abbrev pub exempt_in : Solver D C N S → List S
  exempt_in s = s.exempt.items

  -- the parameters by which scores grow and decay
  pub record HasActivity (add decay : ℕ) (s : Solver D C N S) : Type 0 where
    pub add_is : s.activity.add ≡ add
    pub decay_is : s.activity.decay ≡ decay

  -- the limits of variables, clauses and learnt clauses
  pub record HasLimits (limit : ℕ) (s : Solver D C N S) : Type 0 where
    pub variables : s.variable_limit ≡ limit
    pub clauses : s.clause_limit ≡ limit
    pub learnt : s.learnt_limit ≡ limit

  -- the limits are the same
  pub record KeepsSolverLimits (old new : Solver D C N S) : Type 0 where
    pub variables : new.variable_limit ≡ old.variable_limit
    pub clauses : new.clause_limit ≡ old.clause_limit
    pub learnt : new.learnt_limit ≡ old.learnt_limit

  -- the parameters of the scores are the same
  abbrev pub KeepsActivity : Solver D C N S → Solver D C N S → Type 0
  KeepsActivity old new = new.activity ≡ old.activity

  -- the provider, the limits, the parameters and the state of the last search are the same, but the cache may know more
  pub record IsSameSolver (old new : Solver D C N S) : Type 0 where
    pub provider : provider_in new ≡ provider_in old
    pub limits : KeepsSolverLimits old new
    pub activity : KeepsActivity old new
    pub notes : notes_of (rounds_in new) ≡ notes_of (rounds_in old)
    pub search : search_of (rounds_in new) ≡ search_of (rounds_in old)

  -- In the state of the last search there are as many variables as the limit, no two of them alike, or as many clauses,
  -- or as many learnt clauses, which are those without a place.
  abbrev pub IsAtLimit : Solver D C N S → Type 0
  IsAtLimit s = ((length s.rounds.encoding.table.variables.origins ≡ s.variable_limit) × AreDistinct s.rounds.encoding.table.variables.origins)
      ⊎ ((length s.rounds.encoding.table.kinds ≡ s.clause_limit)
      ⊎ ((s.clause_limit ≤ length s.rounds.search.table) ⊎ (s.learnt_limit ≤ length s.rounds.search.table - length s.rounds.search.places)))

  -- the cached answers of the provider are true, and the number of each variable fits its type
  pub record IsSound (u : Universe N S) (s : Solver D C N S) : Type 0 where
    pub true_answers : IsTrueCache u s.rounds.encoding.cache
    pub fits : s.variable_limit ≤ 2 ^ 31
