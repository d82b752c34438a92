-- Tables of packages and versions, and the invariants that they keep.
use Rattle.std.specs.Prelude.{◌≡◌, [], ◌∷◌, ◌++◌, ℕ, ◌<◌, ◌≤◌, List, Option, Some, None, slice_get, slice_set, true, false, length, Contains, All}
use Rattle.std.specs.Prelude.{AllPairs, IfSome, IsSome, IsNone, slice_index_or}
use Rattle.std.specs.Ordering.{nat_cmp, on, flip_args, then_cmp}
use Rattle.std.specs.declared.cmp.Ordering.{Ordering}
use Rattle.resolve.specs.declared.ids.NameId.{NameId}
use Rattle.resolve.specs.declared.ids.SolvableId.{SolvableId}
use Rattle.resolve.specs.declared.ids.Version.{Version}
use Rattle.resolve.specs.Listings.{ListedPackage, no_versions, with_candidate, with_excluded}
use Rattle.resolve.specs.Solvables.{Solvable, no_needs, with_constraint, with_requirement}
use Rattle.resolver_clause_store.specs.declared.ids.VersionSetId.{VersionSetId}
use Rattle.resolver_clause_store.specs.declared.ids.StringId.{StringId}
use Rattle.resolver_clause_store.specs.declared.data.ConditionalRequirement.{ConditionalRequirement}

-- the package of a version; the first package if there is no such version
abbrev pub name_of : Option Version → NameId
name_of None = record { 0 = 0 }
name_of (Some v) = v.name

abbrev pub name_at : List Version → SolvableId → NameId
name_at versions s = name_of (slice_get versions s.0)

abbrev pub version_of : Option Version → ℕ
version_of None = 0
version_of (Some v) = v.number

abbrev pub version_at : List Version → SolvableId → ℕ
version_at versions s = version_of (slice_get versions s.0)

-- the solvable is declared, as a version of the n-th package
pub record IsVersionOf (versions : List Version) (n : ℕ) (s : SolvableId) : Type 0 where
  pub declared : s.0 < length versions
  pub named : (name_at versions s).0 ≡ n

-- the solvable is not declared, or its package is not in the table
abbrev pub IsWithoutPackage : List Version → List ListedPackage → SolvableId → Type 0
IsWithoutPackage versions packages s = s.0 < length versions → length packages ≤ (name_at versions s).0

-- everything that the n-th package names is one of its versions, and its candidates are listed in the order of
-- declaration
pub record IsPackageOf (versions : List Version) (n : ℕ) (p : ListedPackage) : Type 0 where
  pub listed : All (IsVersionOf versions n) p.candidates
  pub rising : AllPairs (λ a b. a.0 < b.0) p.candidates
  pub favored : IfSome p.favored (IsVersionOf versions n)
  pub locked : IfSome p.locked (IsVersionOf versions n)
  pub excluded : All (λ e. IsVersionOf versions n e.0) p.excluded

abbrev pub ArePackagesOf : List Version → List ListedPackage → Type 0
ArePackagesOf versions packages = (n : ℕ) (p : ListedPackage) → slice_get packages n ≡ Some p → IsPackageOf versions n p

-- the higher version comes first; of equal versions, the one that was declared first
abbrev pub preference : List Version → SolvableId → SolvableId → Ordering
preference versions = then_cmp (flip_args (on (version_at versions) nat_cmp)) (on (λ s. s.0) nat_cmp)

-- the version was appended, nothing was declared of it, and it is the last candidate of its package; nothing else changed
pub record IsDeclared (versions versions' : List Version) (solvables solvables' : List Solvable) (packages packages' : List ListedPackage)
    (version : Version) : Type 0 where
  pub fresh : Contains versions version → ⊥
  pub within : version.name.0 < length packages
  pub last : versions' ≡ versions ++ version ∷ []
  pub added : solvables' ≡ solvables ++ no_needs ∷ []
  pub listed : packages' ≡ slice_set packages version.name.0 (with_candidate (slice_index_or packages version.name.0 no_versions) (record { 0 = length versions }))

-- nothing changed, because the version is declared already, or there is no such package
pub record IsDeclarationRefused (versions versions' : List Version) (solvables solvables' : List Solvable) (packages packages' : List ListedPackage)
    (version : Version) : Type 0 where
  pub kept : versions' ≡ versions
  pub kept_solvables : solvables' ≡ solvables
  pub kept_packages : packages' ≡ packages
  pub taken : version.name.0 < length packages → Contains versions version

-- the solvable is now the favored one of its package, which had none; nothing else changed
pub record IsFavored (versions : List Version) (packages packages' : List ListedPackage) (s : SolvableId) : Type 0 where
  pub package_before : ListedPackage
  pub stood : slice_get packages (name_at versions s).0 ≡ Some package_before
  pub free : IsNone package_before.favored
  pub written : packages' ≡ slice_set packages (name_at versions s).0 (record package_before { favored = Some s })

-- the package of the solvable, which was not locked, is now locked to it; nothing else changed
pub record IsLocked (versions : List Version) (packages packages' : List ListedPackage) (s : SolvableId) : Type 0 where
  pub package_before : ListedPackage
  pub stood : slice_get packages (name_at versions s).0 ≡ Some package_before
  pub free : IsNone package_before.locked
  pub written : packages' ≡ slice_set packages (name_at versions s).0 (record package_before { locked = Some s })

-- one requirement of the solvable was added; nothing else changed
pub record IsRequired (solvables solvables' : List Solvable) (s : SolvableId) (requirement : ConditionalRequirement) : Type 0 where
  pub before : Solvable
  pub stood : slice_get solvables s.0 ≡ Some before
  pub written : solvables' ≡ slice_set solvables s.0 (with_requirement before requirement)

-- one constraint of the solvable was added; nothing else changed
pub record IsConstrained (solvables solvables' : List Solvable) (s : SolvableId) (version_set : VersionSetId) : Type 0 where
  pub before : Solvable
  pub stood : slice_get solvables s.0 ≡ Some before
  pub written : solvables' ≡ slice_set solvables s.0 (with_constraint before version_set)

-- the dependencies of the solvable are now unknown for this reason, and were known before; nothing else changed
pub record IsMadeUnknown (solvables solvables' : List Solvable) (s : SolvableId) (reason : StringId) : Type 0 where
  pub before : Solvable
  pub stood : slice_get solvables s.0 ≡ Some before
  pub free : IsNone before.unknown
  pub written : solvables' ≡ slice_set solvables s.0 (record before { unknown = Some reason })

-- the solvable is now excluded for this reason, as the last excluded one of its package, and was not before; nothing
-- else changed
pub record BecomesExcluded (versions : List Version) (solvables solvables' : List Solvable) (packages packages' : List ListedPackage) (s : SolvableId)
    (reason : StringId) : Type 0 where
  pub before : Solvable
  pub stood : slice_get solvables s.0 ≡ Some before
  pub included : before.is_excluded ≡ false
  pub marked : solvables' ≡ slice_set solvables s.0 (record before { is_excluded = true })
  pub package_before : ListedPackage
  pub package_stood : slice_get packages (name_at versions s).0 ≡ Some package_before
  pub written : packages' ≡ slice_set packages (name_at versions s).0 (with_excluded package_before (s, reason))

-- nothing changed, because the package of the solvable has a favored one, or there is no such package
pub record IsFavorRefused (versions : List Version) (packages packages' : List ListedPackage) (s : SolvableId) : Type 0 where
  pub kept : packages' ≡ packages
  pub taken : (p : ListedPackage) → s.0 < length versions → slice_get packages (name_at versions s).0 ≡ Some p → IsSome p.favored

-- nothing changed, because the package of the solvable is locked, or there is no such package
pub record IsLockRefused (versions : List Version) (packages packages' : List ListedPackage) (s : SolvableId) : Type 0 where
  pub kept : packages' ≡ packages
  pub taken : (p : ListedPackage) → s.0 < length versions → slice_get packages (name_at versions s).0 ≡ Some p → IsSome p.locked

-- nothing changed, because the solvable has a reason, or there is no such solvable
pub record IsReasonRefused (solvables solvables' : List Solvable) (s : SolvableId) : Type 0 where
  pub kept : solvables' ≡ solvables
  pub taken : (t : Solvable) → slice_get solvables s.0 ≡ Some t → IsSome t.unknown

-- nothing changed, because the solvable is excluded, or it or its package does not exist
pub record IsExclusionRefused (versions : List Version) (solvables solvables' : List Solvable) (packages packages' : List ListedPackage)
    (s : SolvableId) : Type 0 where
  pub kept : solvables' ≡ solvables
  pub kept_packages : packages' ≡ packages
  pub taken : (t : Solvable) → s.0 < length versions → (name_at versions s).0 < length packages → slice_get solvables s.0 ≡ Some t → t.is_excluded ≡ true
