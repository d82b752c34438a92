-- What was read so far, and what one more reading does.
use Rattle.std.specs.Prelude.{Bool, true, false, ℕ, ◌≡◌, ◌<◌, ◌⊎◌, ◌∷◌, ◌++◌, [], All, Contains, List, None, Some, count_by, is_some, length, map, slice_get}
use Rattle.std.specs.Prelude.{slice_set}
use Rattle.resolver_clause_store.specs.Universe.{Universe, Demands}
use Rattle.resolver_clause_store.specs.Candidates.{matching}
use Rattle.resolver_clause_store.specs.Near.{IsNear}
use Rattle.resolver_clause_store.specs.Valid.{demands_of}
use Rattle.resolver_clause_store.specs.declared.VersionSetId.{VersionSetId}
use Rattle.resolver_clause_store.specs.declared.By.TheVariants.{Root as ByRoot}
use Rattle.resolver_clause_store.specs.declared.Origin.TheVariants.{Solvable}
use Rattle.resolver_clause_store.specs.Statements.{IsPresent, AllMeet}
use Rattle.resolver_encoding.specs.Called.{Call, IsDemanded, IsWantedBy}
use Rattle.resolver_encoding.specs.Encodings.{AreDemandsRead, AreNeedsRead, Extends, IsCallMade, IsEncoding, IsGrowth, IsLeft, Notes}
use Rattle.resolver_encoding.specs.Groups.{Groups, IsInGroup}
use Rattle.resolver_encoding.specs.Hints.{IsListedFrom}
use Rattle.resolver_encoding.specs.Reach.{AreNear}
use Rattle.resolver_encoding.specs.ReadState.{Deferred, HasClause, NoneFires}
use Rattle.resolver_encoding.specs.declared.progress.Progress.{Progress}
use Rattle.resolver_encoding.specs.declared.progress.Progress.TheVariants.{Nothing, Fired, Read}

-- each solvable that was read has a variable
abbrev pub HasReadKnown : {N S : Type 0} → Notes N S → Type 0
HasReadKnown {N} {S} notes = (s : S) → Contains notes.read s → Contains notes.origins (Solvable s)

-- the notes are an encoding, and the root and each solvable that was read have their clauses or deferred disjuncts
pub record IsHalfRead {N S : Type 0} (u : Universe N S) (root : Demands) (notes : Notes N S) : Type 0 where
  pub encoding : IsEncoding u root notes
  pub root_read : AreDemandsRead u notes ByRoot root
  pub each_read : (s : S) → Contains notes.read s → AreNeedsRead u notes s (u.needs s)
  pub read_known : HasReadKnown notes
  pub left_read : (e : Deferred S) → IsLeft notes e → IsPresent e.by notes.read

-- besides, each solvable of the set was read, and no deferred disjunct is met in the set
pub record IsReadSoFar {N S : Type 0} (u : Universe N S) (root : Demands) (set : List S) (notes : Notes N S) : Type 0 where
  pub half : IsHalfRead u root notes
  pub set_read : (s : S) → Contains set s → Contains notes.read s
  pub none : NoneFires u (IsLeft notes) set

-- the same, for some root
pub record IsHalfReading {N S : Type 0} (u : Universe N S) (notes : Notes N S) : Type 0 where
  pub root : Demands
  pub half : IsHalfRead u root notes

pub record IsReading {N S : Type 0} (u : Universe N S) (set : List S) (notes : Notes N S) : Type 0 where
  pub root : Demands
  pub so_far : IsReadSoFar u root set notes

-- the number of deferred disjuncts
abbrev pub left_count : {N S : Type 0} → Notes N S → ℕ
left_count notes = count_by is_some notes.deferred

-- What one more reading does. It reads new solvables of the set and candidates of new requirement clauses, and no
-- others. It removes a deferred disjunct only if that is met in the set.
pub record IsReadMore {N S : Type 0} (u : Universe N S) (set : List S) (old new : Notes N S) : Type 0 where
  pub growth : IsGrowth old new
  pub read : Extends old.read new.read
  pub reads : (s : S) → Contains new.read s → Contains old.read s ⊎ (Contains set s ⊎ IsListedFrom u new (length old.kinds) s)
  pub taken : (i : ℕ) (e : Deferred S) → slice_get old.deferred i ≡ Some (Some e) → (slice_get new.deferred i ≡ Some (Some e)) ⊎
      AllMeet set (map (matching u) e.disjunct)
  pub exempt : new.exempt ≡ old.exempt

-- whether solvables were read, or disjuncts removed; if not, nothing changed
abbrev pub HasRead : {N S : Type 0} → Notes N S → Notes N S → Bool → Type 0
HasRead old new true = length old.read < length new.read
HasRead old new false = new ≡ old

-- solvables were read, or nothing changed
abbrev pub IsMoreOrSame : {N S : Type 0} → Notes N S → Notes N S → Type 0
IsMoreOrSame old new = (new ≡ old) ⊎ (length old.read < length new.read)

abbrev pub HasFired : {N S : Type 0} → Notes N S → Notes N S → Bool → Type 0
HasFired old new true = left_count new < left_count old
HasFired old new false = new ≡ old

abbrev pub progress_by : Bool → Bool → Progress
progress_by true fired = Read
progress_by false true = Fired
progress_by false false = Nothing

-- what changed: nothing; disjuncts were removed, and no solvable was read; or solvables were read
abbrev pub IsProgress : {N S : Type 0} → Notes N S → Notes N S → Progress → Type 0
IsProgress old new Nothing = new ≡ old
IsProgress old new Fired = (new.read ≡ old.read) × (left_count new < left_count old)
IsProgress old new Read = length old.read < length new.read

-- the number of the deferred disjunct was added under the packages of these version sets
pub record IsIndexing {N S : Type 0} (u : Universe N S) (number : ℕ) (list : List VersionSetId) (old new : Notes N S) : Type 0 where
  pub deferred_by_name : Groups N ℕ
  pub is : new ≡ record old { deferred_by_name = deferred_by_name }
  pub earlier : (n : N) (i : ℕ) → IsInGroup old.deferred_by_name n i → IsInGroup deferred_by_name n i
  pub here : All (λ v. IsInGroup deferred_by_name (u.version_set_name v) number) list

-- one more disjunct was deferred
pub record IsDeferral {N S : Type 0} (u : Universe N S) (e : Deferred S) (old new : Notes N S) : Type 0 where
  pub deferred_by_name : Groups N ℕ
  pub is : new ≡ record old { deferred_by_name = deferred_by_name; deferred = old.deferred ++ Some e ∷ [] }
  pub earlier : (n : N) (i : ℕ) → IsInGroup old.deferred_by_name n i → IsInGroup deferred_by_name n i
  pub here : All (λ v. IsInGroup deferred_by_name (u.version_set_name v) (length old.deferred)) e.disjunct

-- the deferred disjunct with this number was removed
pub record IsTakenOut {N S : Type 0} (number : ℕ) (e : Deferred S) (old new : Notes N S) : Type 0 where
  pub was : slice_get old.deferred number ≡ Some (Some e)
  pub is : new ≡ record old { deferred = slice_set old.deferred number None }

-- the disjunct with this number is deferred, and met in the set
pub record HasMet {N S : Type 0} (u : Universe N S) (set : List S) (notes : Notes N S) (number : ℕ) : Type 0 where
  pub entry : Deferred S
  pub is : slice_get notes.deferred number ≡ Some (Some entry)
  pub met : AllMeet set (map (matching u) entry.disjunct)

-- the disjunct with this number is not deferred, or not met in the set
pub record IsQuietAt {N S : Type 0} (u : Universe N S) (set : List S) (notes : Notes N S) (number : ℕ) : Type 0 where
  pub quiet : (e : Deferred S) → slice_get notes.deferred number ≡ Some (Some e) → AllMeet set (map (matching u) e.disjunct) → ⊥

-- the same for each disjunct that is noted under the package
pub record IsQuietUnder {N S : Type 0} (u : Universe N S) (set : List S) (notes : Notes N S) (n : N) : Type 0 where
  pub quiet : (i : ℕ) → IsInGroup notes.deferred_by_name n i → IsQuietAt u set notes i

-- Disjuncts that are met in the set were removed, and each has its clause. Only packages of their requirements were
-- asked, and only candidates of these registered.
pub record IsFiring {N S : Type 0} (u : Universe N S) (set : List S) (old new : Notes N S) : Type 0 where
  pub growth : IsGrowth old new
  pub called : (call : Call N S) → IsCallMade new call → IsCallMade old call ⊎
      ((e : Deferred S) × IsLeft old e × AllMeet set (map (matching u) e.disjunct) × IsWantedBy u e.requirement call)
  pub read : new.read ≡ old.read
  pub deferred_by_name : new.deferred_by_name ≡ old.deferred_by_name
  pub stays : (i : ℕ) (e : Deferred S) → slice_get new.deferred i ≡ Some (Some e) → slice_get old.deferred i ≡ Some (Some e)
  pub taken : (i : ℕ) (e : Deferred S) → slice_get old.deferred i ≡ Some (Some e) → (slice_get new.deferred i ≡ Some (Some e)) ⊎
      (AllMeet set (map (matching u) e.disjunct) × HasClause new.kinds e.by e.disjunct e.requirement)
  pub keeps : (root : Demands) → IsEncoding u root old → IsEncoding u root new

-- Such solvables were read. Only packages and candidates that they demand in the set were asked or registered, and only
-- disjuncts that are not met in it were deferred.
pub record IsReadingOf {N S : Type 0} (u : Universe N S) (set : List S) (Reads : S → Type 0) (old new : Notes N S) : Type 0 where
  pub growth : IsGrowth old new
  pub called : (call : Call N S) → IsCallMade new call → IsCallMade old call ⊎ ((s : S) × Contains new.read s × IsDemanded u set (demands_of (u.needs s)) call)
  pub read : Extends old.read new.read
  pub reads : (s : S) → Contains new.read s → Contains old.read s ⊎ Reads s
  pub deferred : Extends old.deferred new.deferred
  pub unmet : (e : Deferred S) → IsLeft new e → IsLeft old e ⊎ (AllMeet set (map (matching u) e.disjunct) → ⊥)
  pub keeps : (root : Demands) → IsHalfRead u root old → IsHalfRead u root new

-- the notes have nothing but the root
pub record IsBare {N S : Type 0} (notes : Notes N S) : Type 0 where
  pub none_seen : notes.seen ≡ []
  pub none_asked : notes.asked ≡ []
  pub none_read : notes.read ≡ []
  pub none_deferred : notes.deferred ≡ []

-- Candidates of requirement clauses from this place on were read. What was near is still near, if the set is.
pub record IsHintedReading {N S : Type 0} (u : Universe N S) (set : List S) (from : ℕ) (old new : Notes N S) : Type 0 where
  pub reading : IsReadingOf u set (IsListedFrom u new from) old new
  pub near : (root : Demands) (seeds : List S) (packages : List N) → AreNear u root seeds packages old → All (IsNear u root seeds) set →
      AreNear u root seeds packages new
