-- Rounds of searching and reading.
use Rattle.std.specs.Prelude.{◌≡◌, ℕ, ◌+◌, ◌-◌, ◌<◌, ◌≤◌, ◌⊎◌, Bool, Some, true, false, List, [], ◌∷◌, ◌++◌, Contains, None, length, map, take}
use Rattle.std.specs.List.{flat_map}
use Rattle.resolver_clause_store.specs.Caches.{IsTrueCache}
use Rattle.resolver_clause_store.specs.FirstChoice.{TakesFirstChoices}
use Rattle.resolver_clause_store.specs.Outcomes.{IsCore}
use Rattle.resolver_clause_store.specs.Formula.{Satisfies}
use Rattle.resolver_clause_store.specs.Lists.{HasNoRepeats, IsWithin}
use Rattle.resolver_clause_store.specs.Reached.{AllReached}
use Rattle.resolver_clause_store.specs.SoftRun.{Exempts, FitsNowhere, SoftRun, options, own_packages}
use Rattle.resolver_clause_store.specs.Valid.{IsValid}
use Rattle.resolver_clause_store.specs.declared.SoftRequirement.{SoftRequirement}
use Rattle.resolver_clause_store.specs.declared.SoftRequirement.TheVariants.{Solvable as SoftSolvable}
use Rattle.resolver_clause_store.specs.declared.VersionSetId.{VersionSetId}
use Rattle.resolver_clause_store.specs.Variables.{Keeps}
use Rattle.resolver_clause_store.specs.TrailView.{Gains, IsCut, KeepsPlaces, length_of, level_of, slot_of, variable_at, variable_count}
use Rattle.resolver_clause_store.specs.Universe.{Universe, Demands}
use Rattle.resolver_clause_store.specs.Literals.{Literal}
use Rattle.resolver_clause_store.specs.declared.Cache.{Cache}
use Rattle.resolver_clause_store.specs.declared.Origin.{Origin}
use Rattle.resolver_clause_store.specs.declared.Reason.TheVariants.{Assumed}
use Rattle.resolver_clause_store.specs.declared.Slot.{Slot}
use Rattle.resolver_clause_store.specs.declared.Trail.{Trail}
use Rattle.resolver_encoding.specs.Encodings.{Extends, IsFull, IsUnread, Notes}
use Rattle.resolver_encoding.specs.LeftOut.{IsLeftOut}
use Rattle.resolver_encoding.specs.Notes.{cache_in, notes_in}
use Rattle.resolver_encoding.specs.SoFar.{IsReading, IsReadSoFar, left_count}
use Rattle.resolver_encoding.specs.Reach.{AreNear}
use Rattle.resolver_encoding.specs.ReadState.{AreSeeds}
use Rattle.resolver_encoding.specs.TrailAtoms.{IsAnswerBy}
use Rattle.resolver_encoding.specs.Turns.{AsksOnly, IsTurnEnd}
use Rattle.resolver_encoding.specs.Trails.{AreAssumed, Follows, chosen_in, solvables_before}
use Rattle.resolver_encoding.specs.declared.chosen.Chosen.{Chosen}
use Rattle.resolver_encoding.specs.Values.{requirement_numbers}
use Rattle.resolvo.specs.ClauseSearches.{IsConsistent, IsLoaded, IsRefused, IsRootTurn, KeepsTurn, base_of, held_of, clause_count_of, kept_of, learnt_count_of}
use Rattle.resolvo.specs.ClauseSearches.{trail_of}
use Rattle.resolvo.specs.declared.clause_search.ClauseSearch.{ClauseSearch}
use Rattle.resolvo.specs.declared.rounds.Found.{Found}
use Rattle.resolvo.specs.declared.rounds.Found.TheVariants.{Answer, Contradiction, Refused}
use Rattle.resolvo.specs.declared.rounds.Round.{Round}
use Rattle.resolvo.specs.declared.rounds.Round.TheVariants.{Last, Fired, Read}
use Rattle.resolvo.specs.declared.rounds.Rounds.{Rounds}

-- the search was loaded with the first of the clauses, and the first of the numbers of requirement clauses
pub record HasLoaded (table : List (List Literal)) (requirements : List ℕ) (search : ClauseSearch) : Type 0 where
  pub given : List (List Literal)
  pub numbers : List ℕ
  pub loaded : IsLoaded given numbers search
  pub clauses : Extends given table
  pub requiring : Extends numbers requirements

-- The taken, chosen and exempt solvables after the turn of a solvable, and whether it is chosen.
pub data IsTurned {N S : Type 0} (u : Universe N S) (root : Demands) (taken chosen exempt : List S) (asked : List N) (s : S) :
    (taken_now chosen_now exempt_now : List S) → Bool → Type 0 where
  was_chosen : Contains chosen s → IsTurned u root taken chosen exempt asked s taken chosen exempt true
  is_accepted : {chosen_now exempt_now : List S} → (Contains chosen s → ⊥) → Exempts u asked exempt s exempt_now → IsWithin chosen chosen_now →
      Contains chosen_now s →
      IsValid u root chosen_now exempt_now → AllReached u root chosen_now (taken ++ s ∷ []) →
      IsTurned u root taken chosen exempt asked s (taken ++ s ∷ []) chosen_now exempt_now true
  is_refused : {exempt_now : List S} → (Contains chosen s → ⊥) → Exempts u asked exempt s exempt_now → FitsNowhere u root chosen exempt_now s →
      IsTurned u root taken chosen exempt asked s taken chosen exempt false

-- After the turns of candidates, none of which was chosen before, one is taken or none.
pub data IsOneTaken {N S : Type 0} (u : Universe N S) (root : Demands) (taken chosen exempt candidates : List S) : (taken_now chosen_now : List S) → Bool →
    Type 0 where
  one_fits : {s : S} {chosen_now : List S} → Contains candidates s → IsWithin chosen chosen_now → Contains chosen_now s → IsValid u root chosen_now exempt →
      AllReached u root chosen_now (taken ++ s ∷ []) →
      IsOneTaken u root taken chosen exempt candidates (taken ++ s ∷ []) chosen_now true
  none_fits : ((s : S) → Contains candidates s → FitsNowhere u root chosen exempt s) → IsOneTaken u root taken chosen exempt candidates taken chosen false

-- the chosen solvables are those of the trail as it was when its length was last noted
pub record FollowsMark {N S : Type 0} (origins : List (Origin N S)) (chosen : Chosen S) (search : ClauseSearch) : Type 0 where
  pub base : Trail
  pub follows : Follows chosen origins base (length_of base)
  pub kept : KeepsPlaces base (trail_of search) (kept_of search)
  pub known : variable_count base ≤ length origins

-- the variable is the last assumption
pub record HasAssumed (search : ClauseSearch) (variable : ℕ) : Type 0 where
  pub base : 0 < base_of search
  pub place : variable_at (trail_of search) (held_of search - 1) ≡ variable

module _ {N S : Type 0} where
  -- the notes of the encoding; the chosen solvables; the search
  abbrev pub notes_of : Rounds N S → Notes N S
  notes_of r = notes_in r.encoding

  abbrev pub chosen_of : Rounds N S → List S
  chosen_of r = chosen_in r.chosen

  abbrev pub search_of : Rounds N S → ClauseSearch
  search_of r = r.search

  -- the limits of clauses and of learnt clauses
  abbrev pub clause_limit_of : Rounds N S → ℕ
  clause_limit_of r = r.clause_limit

  abbrev pub learnt_limit_of : Rounds N S → ℕ
  learnt_limit_of r = r.learnt_limit

  -- the provider's answers
  abbrev pub cache_of : Rounds N S → Cache N S
  cache_of r = cache_in r.encoding

  -- the limits are the same, and the cached answers stay true
  pub record KeepsRoundLimits (u : Universe N S) (old new : Rounds N S) : Type 0 where
    pub variables : (notes_of new).variable_limit ≡ (notes_of old).variable_limit
    pub kinds : (notes_of new).clause_limit ≡ (notes_of old).clause_limit
    pub answers : IsTrueCache u (cache_of old) → IsTrueCache u (cache_of new)
    pub clauses : new.clause_limit ≡ old.clause_limit
    pub learnt : new.learnt_limit ≡ old.learnt_limit

  -- the chosen solvables follow the trail as it was when its length was last noted
  abbrev pub HasBookmark : Rounds N S → Type 0
  HasBookmark r = FollowsMark (notes_of r).origins r.chosen r.search

  -- nothing is read yet
  pub record IsFresh (r : Rounds N S) : Type 0 where
    pub unread : IsUnread (notes_of r)
    pub exempt : (notes_of r).exempt ≡ []
    pub consistent : IsConsistent r.search
    pub loaded : IsLoaded [] [] r.search
    pub variables : variable_count (trail_of r.search) ≡ 0
    pub none : chosen_of r ≡ []
    pub turn : IsRootTurn r.search
    pub follows : (origins : List (Origin N S)) (trail : Trail) → Follows r.chosen origins trail 0

  -- the invariant of the rounds
  pub record AreRounds (u : Universe N S) (r : Rounds N S) : Type 0 where
    pub answers : IsTrueCache u (cache_of r)
    pub reading : IsReading u (chosen_of r) (notes_of r)
    pub consistent : IsConsistent r.search
    pub loaded : HasLoaded (notes_of r).table (requirement_numbers (notes_of r).kinds) r.search
    pub variables : variable_count (trail_of r.search) ≤ length (notes_of r).origins
    pub bookmark : HasBookmark r

  -- all clauses are loaded
  pub record IsUpToDate (r : Rounds N S) : Type 0 where
    pub loaded : IsLoaded (notes_of r).table (requirement_numbers (notes_of r).kinds) r.search
    pub variables : variable_count (trail_of r.search) ≡ length (notes_of r).origins

  -- what was read for a problem stays read
  abbrev pub KeepsRead : Universe N S → Rounds N S → Rounds N S → Type 0
  KeepsRead u old new = (root : Demands) → IsReadSoFar u root (chosen_of old) (notes_of old) → IsReadSoFar u root (chosen_of new) (notes_of new)

  -- If only the taken and the refused solvables are assumed, everything that was near the seeds stays near.
  abbrev pub KeepsNear : Universe N S → Rounds N S → Rounds N S → Type 0
  KeepsNear u old new = (root : Demands) (seeds taken refused : List S) (packages : List N) → IsReadSoFar u root (chosen_of old) (notes_of old) →
      IsWithin taken seeds → AreAssumed (notes_of old).origins taken refused (trail_of old.search) →
      AreNear u root seeds packages (notes_of old) → AreNear u root seeds packages (notes_of new)

  -- a later state of the same turn
  pub record GoesOn (u : Universe N S) (old new : Rounds N S) : Type 0 where
    pub read : KeepsRead u old new
    pub near : KeepsNear u old new
    pub origins : Keeps (notes_of old).origins (notes_of new).origins
    pub table : Extends (notes_of old).table (notes_of new).table
    pub exempt : (notes_of new).exempt ≡ (notes_of old).exempt
    pub asked : IsWithin (notes_of old).asked (notes_of new).asked
    pub seen : IsWithin (notes_of old).seen (notes_of new).seen
    pub turn : KeepsTurn old.search new.search

  -- the whole trail is held and followed
  pub record IsStill (r : Rounds N S) : Type 0 where
    pub held : held_of r.search ≡ length_of (trail_of r.search)
    pub bookmarked : kept_of r.search ≡ length_of (trail_of r.search)
    pub chosen : chosen_of r ≡ solvables_before (notes_of r).origins (trail_of r.search) (length_of (trail_of r.search))

  -- the rounds between two turns
  pub record AreAtRest (u : Universe N S) (r : Rounds N S) : Type 0 where
    pub rounds : AreRounds u r
    pub still : IsStill r

  -- The taken and the refused solvables are those of the turns so far. Everything registered, read and asked is near the seeds, or one of the
  -- packages.
  pub record IsStanding (u : Universe N S) (root : Demands) (taken refused seeds : List S) (packages : List N) (r : Rounds N S) : Type 0 where
    pub read : IsReadSoFar u root (chosen_of r) (notes_of r)
    pub once : HasNoRepeats (chosen_of r)
    pub assumed : AreAssumed (notes_of r).origins taken refused (trail_of r.search)
    pub left_out : (s : S) → Contains refused s → IsLeftOut (notes_of r).origins (notes_of r).table (chosen_of r) s
    pub seeded : AreSeeds u taken (chosen_of r) (notes_of r).asked (notes_of r).seen (notes_of r).exempt
    pub within : IsWithin taken seeds
    pub exempt : IsWithin (notes_of r).exempt taken
    pub near : AreNear u root seeds packages (notes_of r)

  -- A solvable had its turn: it was chosen before, it is accepted, or it is refused.
  pub record HasTurned (u : Universe N S) (root : Demands) (taken refused seeds : List S) (packages : List N) (s : S) (old new : Rounds N S)
      (is_chosen : Bool) : Type 0 where
    pub taken_now : List S
    pub refused_now : List S
    pub turned : IsTurned u root taken (chosen_of old) (notes_of old).exempt (notes_of old).asked s taken_now (chosen_of new) (notes_of new).exempt is_chosen
    pub standing : IsStanding u root taken_now refused_now seeds packages new
    pub asked : IsWithin (notes_of old).asked (notes_of new).asked

  -- Candidates had their turns, and none of them became exempt. The last one is accepted, or each is refused.
  pub record HaveTurned (u : Universe N S) (root : Demands) (taken seeds : List S) (packages : List N) (candidates : List S) (old new : Rounds N S)
      (is_chosen : Bool) : Type 0 where
    pub taken_now : List S
    pub refused_now : List S
    pub turned : IsOneTaken u root taken (chosen_of old) (notes_of old).exempt candidates taken_now (chosen_of new) is_chosen
    pub exempt : (notes_of new).exempt ≡ (notes_of old).exempt
    pub standing : IsStanding u root taken_now refused_now seeds packages new
    pub asked : IsWithin (notes_of old).asked (notes_of new).asked

  -- the turn of a solvable among the seeds, whatever was taken and refused before it
  abbrev pub TakesTurn : Universe N S → S → Rounds N S → Rounds N S → Bool → Type 0
  TakesTurn u s old new is_chosen = (root : Demands) (taken refused seeds : List S) (packages : List N) → Contains seeds s →
      IsStanding u root taken refused seeds packages old → HasTurned u root taken refused seeds packages s old new is_chosen

  -- the same for candidates among the seeds
  abbrev pub TakesFirst : Universe N S → List S → Rounds N S → Rounds N S → Bool → Type 0
  TakesFirst u candidates old new is_chosen = (root : Demands) (taken refused seeds : List S) (packages : List N) → IsWithin candidates seeds →
      IsStanding u root taken refused seeds packages old → HaveTurned u root taken seeds packages candidates old new is_chosen

  -- only the package of a version set was asked
  pub record HasAsked (u : Universe N S) (version_set : VersionSetId) (old new : Rounds N S) : Type 0 where
    pub chosen : chosen_of new ≡ chosen_of old
    pub alone : AsksOnly u (u.version_set_name version_set) (notes_of old) (notes_of new)
    pub standing : (root : Demands) (taken refused seeds : List S) (packages : List N) → Contains packages (u.version_set_name version_set) →
        IsStanding u root taken refused seeds packages old → IsStanding u root taken refused seeds packages new

  -- the turns of the soft requirements `done` are over
  pub record IsBetween (u : Universe N S) (root : Demands) (done : List (SoftRequirement S)) (r : Rounds N S) : Type 0 where
    pub first : List S
    pub promise : TakesFirstChoices u root first
    pub taken : List S
    pub refused : List S
    pub run : SoftRun u root first done taken (chosen_of r) (notes_of r).exempt (notes_of r).asked
    pub standing : IsStanding u root taken refused (flat_map (options u) done) (flat_map (own_packages u) done) r

  -- the turns of these soft requirements are over as well
  abbrev pub TakesTurns : Universe N S → List (SoftRequirement S) → Rounds N S → Rounds N S → Type 0
  TakesTurns u more old new = (root : Demands) (done : List (SoftRequirement S)) → IsBetween u root done old → IsBetween u root (done ++ more) new

  -- the turns of all soft requirements are over, which depend on the items that an iterator yields
  abbrev pub TakesAll : Universe N S → (List S → Type 0) → (List S → List (SoftRequirement S)) → Rounds N S → Rounds N S → Type 0
  TakesAll u yields all old new = (root : Demands) → IsBetween u root [] old → (items : List S) × yields items × IsBetween u root (all items) new

  -- The turn that began with this variable is undone, and the variable is assumed to be false. As many solvables are exempt as before the turn.
  pub record IsRefusing (u : Universe N S) (variable count : ℕ) (old new : Rounds N S) : Type 0 where
    pub ended : IsTurnEnd u (notes_of old) (notes_of new)
    pub exempt : (notes_of new).exempt ≡ take count (notes_of old).exempt
    pub loaded : ClauseSearch
    pub turn : KeepsTurn old.search loaded
    pub cut : Trail
    pub is_cut : IsCut (trail_of loaded) cut (held_of old.search - 1)
    pub free : slot_of cut variable ≡ None
    pub gains : Gains cut (trail_of new.search) (record { variable = variable; positive = false }) (level_of cut + 1) Assumed

  -- only the search changed
  pub record IsSearchOf (old new : Rounds N S) : Type 0 where
    pub encoding : new.encoding ≡ old.encoding
    pub chosen : new.chosen ≡ old.chosen

  -- the chosen solvables are those that the trail of the search makes true; the clauses of the search are the same
  pub record HasFollowed (old new : Rounds N S) : Type 0 where
    pub trail : trail_of new.search ≡ trail_of old.search
    pub clauses : clause_count_of new.search ≡ clause_count_of old.search
    pub learnt : learnt_count_of new.search ≡ learnt_count_of old.search
    pub turn : KeepsTurn old.search new.search
    pub bookmarked : kept_of new.search ≡ length_of (trail_of new.search)
    pub chosen : chosen_of new ≡ solvables_before (notes_of old).origins (trail_of old.search) (length_of (trail_of old.search))

  -- nothing is read
  abbrev pub KeepsEncoding : Rounds N S → Rounds N S → Type 0
  KeepsEncoding old new = new.encoding ≡ old.encoding

  -- the same, with the length of the trail noted; the first `from` of the chosen solvables were chosen before
  pub record IsFollowingFrom (old new : Rounds N S) (from : ℕ) : Type 0 where
    pub encoding : new.encoding ≡ old.encoding
    pub consistent : IsConsistent new.search
    pub loaded : IsUpToDate new
    pub bookmark : HasBookmark new
    pub within : from ≤ length (chosen_of new)
    pub earlier : IsWithin (take from (chosen_of new)) (chosen_of old)

  -- The chosen solvables are an answer for which the seeds need no requirer, if only they are assumed true and the
  -- refused solvables false. Without assumptions the answer takes the first choices.
  pub record IsAnswering (u : Universe N S) (r : Rounds N S) : Type 0 where
    pub bookmarked : kept_of r.search ≡ length_of (trail_of r.search)
    pub chosen : chosen_of r ≡ solvables_before (notes_of r).origins (trail_of r.search) (length_of (trail_of r.search))
    pub variables : variable_count (trail_of r.search) ≡ length (notes_of r).origins
    pub once : HasNoRepeats (chosen_of r)
    pub answer : (root : Demands) (seeds refused : List S) → IsReadSoFar u root (chosen_of r) (notes_of r) →
        AreAssumed (notes_of r).origins seeds refused (trail_of r.search) →
        AreSeeds u seeds (chosen_of r) (notes_of r).asked (notes_of r).seen (notes_of r).exempt → IsAnswerBy u root (chosen_of r) seeds (notes_of r).exempt
    pub promise : (root : Demands) → IsReadSoFar u root (chosen_of r) (notes_of r) → AreAssumed (notes_of r).origins [] [] (trail_of r.search) →
        TakesFirstChoices u root (chosen_of r)

  -- no values make the clauses true and are those of the trail at the levels up to the base
  pub record IsUnanswered (r : Rounds N S) : Type 0 where
    pub none : (values : ℕ → Bool) → Satisfies values (notes_of r).table →
        ((variable : ℕ) (slot : Slot) → slot_of (trail_of r.search) variable ≡ Some slot → slot.level ≤ base_of r.search → values variable ≡ slot.value) → ⊥

  -- the chosen solvables are an answer, or there is an unsatisfiable core, or the assumption cannot be kept
  abbrev pub IsFound : Universe N S → Rounds N S → Found → Type 0
  IsFound u r Answer = IsAnswering u r
  IsFound u r (Contradiction core) = IsCore (notes_of r).table core.items
  IsFound u r Refused = IsRefused (notes_of r).table (trail_of r.search) (base_of r.search)

  -- the result of all turns
  abbrev pub IsDone : Universe N S → Demands → List (SoftRequirement S) → Rounds N S → Found → Type 0
  IsDone u root soft r Answer = IsBetween u root soft r
  IsDone u root soft r (Contradiction core) = IsReadSoFar u root (chosen_of r) (notes_of r) × IsCore (notes_of r).table core.items
  IsDone u root soft r Refused = ⊥

  -- the same, if an iterator yields the first soft requirements
  abbrev pub IsDoneBy : Universe N S → Demands → (List S → Type 0) → List (SoftRequirement S) → Rounds N S → Found → Type 0
  IsDoneBy u root yields list r found =
      (items : List S) × (found ≡ Answer → yields items) × IsDone u root (map (λ s. SoftSolvable s) items ++ list) r found

  -- the result of all turns, for some problem
  pub record IsSomeDone (u : Universe N S) (r : Rounds N S) (found : Found) : Type 0 where
    pub root : Demands
    pub soft : List (SoftRequirement S)
    pub done : IsDone u root soft r found

  -- each round except the last leaves fewer deferred disjuncts or has read more
  abbrev pub IsRound : Universe N S → Rounds N S → Rounds N S → Round → Type 0
  IsRound u old new (Last found) = IsFound u new found
  IsRound u old new Fired = ((notes_of new).read ≡ (notes_of old).read) × (left_count (notes_of new) < left_count (notes_of old))
  IsRound u old new Read = (length (notes_of old).read < length (notes_of new).read) × (length (notes_of new).read ≤ (notes_of new).variable_limit)

  -- a count is at its limit
  abbrev pub IsStuck : Rounds N S → Type 0
  IsStuck r = IsFull (notes_of r) ⊎ ((r.clause_limit ≤ clause_count_of r.search) ⊎ (r.learnt_limit ≤ learnt_count_of r.search))
