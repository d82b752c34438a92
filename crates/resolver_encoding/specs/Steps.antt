-- The steps of reading, by what is read; and what they add.
use Rattle.std.specs.Prelude.{ℕ, ◌≡◌, ◌≢◌, ◌++◌, ◌^◌, All, Bool, Contains, List, MatchBool, Option, Some, drop, map, ⊤}
use Rattle.resolver_clause_store.specs.Candidates.{matching}
use Rattle.resolver_clause_store.specs.Near.{IsNear}
use Rattle.resolver_clause_store.specs.SoftRun.{Exempts}
use Rattle.resolver_clause_store.specs.Statements.{AllMeet}
use Rattle.resolver_clause_store.specs.TrueRules.{demands_by}
use Rattle.resolver_clause_store.specs.Universe.{Universe, Demands}
use Rattle.resolver_clause_store.specs.Valid.{demands_of}
use Rattle.resolver_clause_store.specs.declared.By.{By}
use Rattle.resolver_clause_store.specs.declared.By.TheVariants.{Solvable as BySolvable}
use Rattle.resolver_clause_store.specs.declared.ClauseKind.{ClauseKind}
use Rattle.resolver_clause_store.specs.declared.ClauseKind.TheVariants.{Implies, Lock}
use Rattle.resolver_clause_store.specs.declared.Helper.TheVariants.{Bit}
use Rattle.resolver_clause_store.specs.declared.ConditionalRequirement.{ConditionalRequirement}
use Rattle.resolver_clause_store.specs.declared.Requirement.{Requirement}
use Rattle.resolver_clause_store.specs.declared.VersionSetId.{VersionSetId}
use Rattle.resolver_encoding.specs.Called.{AreAsked, Call, IsAsking, IsCalledBy, IsCalledByEach, IsCalledFor, IsDemanded, IsNamedBy, IsWantedBy}
use Rattle.resolver_encoding.specs.Codes.{bit}
use Rattle.resolver_encoding.specs.Encodings.{Doing, HasConstraint, HasConstraints, HasPlainRequirement, HasRequirement, HasRequirements, IsAskStep}
use Rattle.resolver_encoding.specs.Encodings.{IsReadStep, IsStepWhile, IsTrueUnder, IsUnmet, Notes}
use Rattle.resolver_encoding.specs.Groups.{IsAt}
use Rattle.resolver_encoding.specs.Reach.{AreNear}
use Rattle.resolver_encoding.specs.ReadState.{Deferred}
use Rattle.resolver_encoding.specs.SoFar.{IsQuietUnder, IsReadSoFar}

-- the demands with these requirements and constraints
abbrev pub demands_with : List ConditionalRequirement → List VersionSetId → Demands
demands_with requirements constraints = record { requirements = requirements; constraints = constraints }

-- the test tells whether this holds
abbrev pub Tells : Type 0 → Bool → Type 0
Tells Holds test = MatchBool test Holds (Holds → ⊥)

-- the clause is there, unless the solvable was exempt
abbrev pub HasUnlessExempt : {N S : Type 0} → S → ClauseKind N S → Notes N S → Notes N S → Type 0
HasUnlessExempt s kind old new = (Contains old.exempt s → ⊥) → Contains new.kinds kind

-- the solvable has the clause of the lock, if it is listed and not the locked one, unless it was exempt
abbrev pub HasLock : {N S : Type 0} → S → List S → Option S → Notes N S → Notes N S → Type 0
HasLock {N} {S} s listed locked old new = (t : S) → locked ≡ Some t → Contains listed s → s ≢ t → HasUnlessExempt s (Lock t s) old new

-- if the number is the first one that has a digit, that digit has its clauses for the earlier numbers under the name
abbrev pub HasBegun : {N S : Type 0} → N → ℕ → Notes N S → Notes N S → Type 0
HasBegun {N} {S} n number old new = (i : ℕ) → number ≡ 2 ^ i → (k : ℕ) (t : S) → IsAt old.groups n k t →
    Contains new.kinds (Implies t (Bit n i) (bit k i))

module _ {N S : Type 0} (u : Universe N S) where
  -- a step while any work is in progress that is asking the package, if it was not asked yet
  abbrev pub IsPackageStep : N → Notes N S → Notes N S → Type 0
  IsPackageStep n old new = (doing : Doing N S) → Contains (doing.asking ++ old.asked) n → IsStepWhile u doing (λ root. ⊤) old new

  -- only such calls were made, and the notes stay right for every problem
  abbrev pub CallsOnly : (Call N S → Type 0) → Notes N S → Notes N S → Type 0
  CallsOnly Called old new = IsAskStep u Called (λ root. ⊤) old new

  -- the requirement gets its clause under the disjunct
  abbrev pub IsEntryStep : Deferred S → Notes N S → Notes N S → Type 0
  IsEntryStep e old new = IsAskStep u (IsWantedBy u e.requirement) (IsTrueUnder u e) old new

  -- an unconditional requirement of a solvable gets its clauses
  abbrev pub IsPlainStep : S → Requirement → Notes N S → Notes N S → Type 0
  IsPlainStep s r old new = IsAskStep u (IsWantedBy u r) (HasPlainRequirement u s r) old new

  -- a constraint, and several of them
  abbrev pub IsConstraintStep : By S → VersionSetId → Notes N S → Notes N S → Type 0
  IsConstraintStep by v old new = IsAskStep u (IsAsking (u.version_set_name v)) (HasConstraint u by v) old new

  abbrev pub IsConstraintsStep : By S → List VersionSetId → Notes N S → Notes N S → Type 0
  IsConstraintsStep by vs old new = IsAskStep u (IsNamedBy u vs) (HasConstraints u by vs) old new

  -- whatever the seeds and the packages are, what was read goes no farther
  abbrev pub AreNearAny : Demands → Notes N S → Type 0
  AreNearAny root notes = (seeds : List S) (packages : List N) → AreNear u root seeds packages notes

  -- the solvable becomes exempt if its package was not asked
  abbrev pub ExemptsOne : S → Notes N S → Notes N S → Type 0
  ExemptsOne s old new = (Contains old.exempt s → ⊥) → Exempts u old.asked old.exempt s new.exempt

  module _ (set : List S) where
    -- the disjunct is met in the set, and its requirement makes the call
    abbrev pub IsCalledIfMet : Deferred S → Call N S → Type 0
    IsCalledIfMet e call = AllMeet set (map (matching u) e.disjunct) × IsWantedBy u e.requirement call

    -- what is read in a chosen set: a disjunct, a requirement, several of them, demands, and those of a solvable
    abbrev pub IsDisjunctStep : Deferred S → Notes N S → Notes N S → Type 0
    IsDisjunctStep e old new = IsReadStep u (IsUnmet u set e.by) (IsCalledIfMet e) (IsTrueUnder u e) old new

    abbrev pub IsRequirementStep : By S → ConditionalRequirement → Notes N S → Notes N S → Type 0
    IsRequirementStep by r old new = IsReadStep u (IsUnmet u set by) (IsCalledBy u set r) (HasRequirement u by r) old new

    abbrev pub IsRequirementsStep : By S → List ConditionalRequirement → Notes N S → Notes N S → Type 0
    IsRequirementsStep by rs old new = IsReadStep u (IsUnmet u set by) (IsCalledByEach u set rs) (HasRequirements u by rs) old new

    abbrev pub IsDemandsStep : By S → Demands → Notes N S → Notes N S → Type 0
    IsDemandsStep by demands old new = IsReadStep u (IsUnmet u set by) (IsDemanded u set demands) (λ root. demands_by u root by ≡ demands) old new

    abbrev pub IsSolvableStep : S → Notes N S → Notes N S → Type 0
    IsSolvableStep s old new = IsReadStep u (IsUnmet u set (BySolvable s)) (IsDemanded u set (demands_of (u.needs s))) (λ root. ⊤) old new

    -- no disjunct is due that is noted under the package of this solvable, or of the solvables from this place on
    abbrev pub IsQuietFor : S → Notes N S → Notes N S → Type 0
    IsQuietFor s old new = IsQuietUnder u set new (u.name s)

    abbrev pub IsQuietFrom : ℕ → Notes N S → Notes N S → Type 0
    IsQuietFrom from old new = All (λ s. IsQuietUnder u set new (u.name s)) (drop from set)

    -- besides those before, the packages that were asked are exactly those that what was read demands in the set
    abbrev pub AsksCalled : Demands → List N → Notes N S → Type 0
    AsksCalled root before new = AreAsked (IsCalledFor u root new.read set) before new.asked

    -- What was read for this part of the set is now read for all of it; the packages were asked that it demands; and it
    -- goes no farther than what is near.
    abbrev pub ReadsOn : List S → Notes N S → Notes N S → Type 0
    ReadsOn part old new = (root : Demands) → IsReadSoFar u root part old → IsReadSoFar u root set new

    abbrev pub AsksOn : List S → Notes N S → Notes N S → Type 0
    AsksOn part old new = (root : Demands) → IsReadSoFar u root part old → AsksCalled root old.asked new

    abbrev pub StaysNear : List S → Notes N S → Notes N S → Type 0
    StaysNear part old new = (root : Demands) (seeds : List S) (packages : List N) → IsReadSoFar u root part old →
        AreNear u root seeds packages old → All (IsNear u root seeds) set → AreNear u root seeds packages new
