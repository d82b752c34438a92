-- A cache of a provider's answers.
use Rattle.std.specs.Prelude.{◌≡◌, Contains, All, ⊤}
use Rattle.std.specs.HashMap.{keys}
use Rattle.resolver_clause_store.specs.Lists.{IsWithin}
use Rattle.resolver_clause_store.specs.Universe.{Universe, Hint, hint_none, hint_all, hint_some, package_of, needs_of}
use Rattle.resolver_clause_store.specs.Candidates.{matching, others, sorted_candidates}
use Rattle.resolver_clause_store.specs.declared.ids.VersionSetId.{VersionSetId}
use Rattle.resolver_clause_store.specs.declared.cache.Cache.{Cache}
use Rattle.std.specs.Prelude.{Some}

-- the hint says that the dependencies of s are cheap to get
abbrev pub Covers : {S : Type 0} → Hint S → S → Type 0
Covers hint_none s = ⊥
Covers hint_all s = ⊤
Covers (hint_some xs) s = Contains xs s

module _ {N S : Type 0} where
  -- each cached answer is the provider's
  pub record IsTrueCache (u : Universe N S) (c : Cache N S) : Type 0 where
    pub packages : All (λ e. package_of (Some e.1) ≡ u.package_named e.0) c.packages.entries
    pub matching : All (λ e. e.1.items ≡ matching u e.0) c.matching.entries
    pub non_matching : All (λ e. e.1.items ≡ others u e.0) c.non_matching.entries
    pub sorted : All (λ e. e.1.items ≡ sorted_candidates u e.0) c.sorted.entries
    pub dependencies : All (λ e. needs_of e.1 ≡ u.needs e.0) c.dependencies.entries

  -- the answer is cached
  abbrev pub HasCandidates : Cache N S → N → Type 0
  HasCandidates c n = Contains (keys c.packages) n

  abbrev pub HasMatching : Cache N S → VersionSetId → Type 0
  HasMatching c v = Contains (keys c.matching) v

  abbrev pub HasNonMatching : Cache N S → VersionSetId → Type 0
  HasNonMatching c v = Contains (keys c.non_matching) v

  abbrev pub HasSorted : Cache N S → VersionSetId → Type 0
  HasSorted c v = Contains (keys c.sorted) v

  abbrev pub HasDependencies : Cache N S → S → Type 0
  HasDependencies c s = Contains (keys c.dependencies) s

  -- no answer is lost
  pub record KeepsAnswers (old new : Cache N S) : Type 0 where
    pub packages : IsWithin (keys old.packages) (keys new.packages)
    pub matching : IsWithin (keys old.matching) (keys new.matching)
    pub non_matching : IsWithin (keys old.non_matching) (keys new.non_matching)
    pub sorted : IsWithin (keys old.sorted) (keys new.sorted)
    pub dependencies : IsWithin (keys old.dependencies) (keys new.dependencies)

  -- the dependencies of s are cached, or its package is, with a hint that covers s
  pub data IsAvailable (u : Universe N S) (c : Cache N S) (s : S) : Type 0 where
    cached : HasDependencies c s → IsAvailable u c s
    hinted : HasCandidates c (u.name s) → Covers (u.package_named (u.name s)).hint s → IsAvailable u c s
