-- The notes of an encoding, the invariant that they keep, and the steps that change them.
use Rattle.std.specs.Prelude.{ℕ, ◌≡◌, ◌≢◌, ◌⊎◌, ◌≤◌, ◌^◌, Bool, List, map, Option, Some, None, [], ◌∷◌, ◌++◌, Contains, All, length, slice_get, true, ⊤}
use Rattle.std.specs.List.{AllZip}
use Rattle.resolver_clause_store.specs.Lists.{HaveSameMembers, IsWithin}
use Rattle.resolver_clause_store.specs.Universe.{Universe, Demands, Needs, known, unknown}
use Rattle.resolver_clause_store.specs.Candidates.{matching, others, requirement_candidates, version_sets}
use Rattle.resolver_clause_store.specs.Disjuncts.{IsDisjunctive}
use Rattle.resolver_clause_store.specs.Variables.{AreDistinct, Keeps}
use Rattle.resolver_clause_store.specs.declared.ConditionId.{ConditionId}
use Rattle.resolver_clause_store.specs.declared.By.{By}
use Rattle.resolver_clause_store.specs.declared.By.TheVariants.{Solvable as BySolvable}
use Rattle.resolver_clause_store.specs.declared.ClauseKind.{ClauseKind}
use Rattle.resolver_clause_store.specs.declared.ClauseKind.TheVariants.{InstallRoot, Requires, Implies as ImpliesKind, Lock, Excluded}
use Rattle.resolver_clause_store.specs.declared.ConditionalRequirement.{ConditionalRequirement}
use Rattle.resolver_clause_store.specs.Literals.{Literal}
use Rattle.resolver_clause_store.specs.declared.Origin.{Origin}
use Rattle.resolver_clause_store.specs.declared.Origin.TheVariants.{Root, Solvable}
use Rattle.resolver_clause_store.specs.declared.Helper.TheVariants.{Bit, Constraint, Condition}
use Rattle.resolver_clause_store.specs.declared.Requirement.{Requirement}
use Rattle.resolver_clause_store.specs.declared.StringId.{StringId}
use Rattle.resolver_clause_store.specs.declared.VersionSetId.{VersionSetId}
use Rattle.resolver_clause_store.specs.Statements.{AllMeet}
use Rattle.resolver_clause_store.specs.TrueRules.{demands_by, Implies}
use Rattle.resolver_encoding.specs.Atoms.{Atom, Disjunct}
use Rattle.resolver_encoding.specs.Called.{Call, to_ask, to_see}
use Rattle.resolver_encoding.specs.Groups.{Groups, IsAt, IsInGroup}
use Rattle.resolver_encoding.specs.Codes.{bit}
use Rattle.resolver_encoding.specs.Read.{HasGate, IsForbidden}
use Rattle.resolver_encoding.specs.ReadState.{Deferred, HasClause, IsReadRequirement}
use Rattle.resolver_encoding.specs.Truth.{AreCodes, AreDue, IsTrueClause}
use Rattle.resolver_encoding.specs.Values.{AreEncoded, IsAtom, IsClauseOf}

-- The view of an encoding: the origin of each variable; the literals and the kind of each clause; the registered
-- candidates, and the same by package name; the packages that were asked; the version sets of conditions whose helpers
-- have their clauses; the requirements that have a gate; the version sets of constraints whose helpers have their
-- clauses; the solvables that were read; the deferred disjuncts, with `None` in the place of each that was removed;
-- their numbers, by the package names of their version sets; the exempt solvables; and the limits of variables and
-- clauses.
pub record Notes (N S : Type 0) : Type 0 where
  pub origins : List (Origin N S)
  pub table : List (List Literal)
  pub kinds : List (ClauseKind N S)
  pub seen : List S
  pub groups : Groups N S
  pub asked : List N
  pub helped : List VersionSetId
  pub gates : List Requirement
  pub constrained : List VersionSetId
  pub read : List S
  pub deferred : List (Option (Deferred S))
  pub deferred_by_name : Groups N ℕ
  pub exempt : List S
  pub variable_limit : ℕ
  pub clause_limit : ℕ

-- the disjunct is deferred, and was not removed
abbrev pub IsLeft : {N S : Type 0} → Notes N S → Deferred S → Type 0
IsLeft notes e = Contains notes.deferred (Some e)

-- the root or the solvable has this requirement, under a condition that holds wherever the disjunct is met
abbrev pub IsTrueUnder : {N S : Type 0} → Universe N S → Deferred S → Demands → Type 0
IsTrueUnder u e root = (r : ConditionalRequirement) × Contains (demands_by u root e.by).requirements r × (r.requirement ≡ e.requirement) ×
    Implies u (map (matching u) e.disjunct) r.condition

-- a deferred disjunct belongs to a requirement of the problem, and has each version set once
pub record IsTrueEntry {N S : Type 0} (u : Universe N S) (root : Demands) (e : Deferred S) : Type 0 where
  pub is_true : IsTrueUnder u e root
  pub once : AreDistinct e.disjunct

-- a solvable that is getting the clauses of its code: it will have this number under its name
pub record Coding (N S : Type 0) : Type 0 where
  pub name : N
  pub number : ℕ
  pub instance : S

-- the work in progress: packages that are being asked, solvables that are getting their codes, and solvables that are
-- no longer exempt and are getting the clauses that they were spared
pub record Doing (N S : Type 0) : Type 0 where
  pub asking : List N
  pub coding : List (Coding N S)
  pub owing : List S

abbrev pub idle : {N S : Type 0} → Doing N S
idle = record { asking = []; coding = []; owing = [] }

abbrev pub asking_for : {N S : Type 0} → N → Doing N S
asking_for n = record { asking = n ∷ []; coding = []; owing = [] }

abbrev pub coding_for : {N S : Type 0} → N → ℕ → S → Doing N S
coding_for n k s = record { asking = []; coding = record { name = n; number = k; instance = s } ∷ []; owing = [] }

abbrev pub owing_for : {N S : Type 0} → S → Doing N S
owing_for s = record { asking = []; coding = []; owing = s ∷ [] }

-- The clauses are true, and each clause is there that another one relies on. Some clauses of the work in progress may
-- be there already.
pub record IsEncodingWhile {N S : Type 0} (u : Universe N S) (doing : Doing N S) (root : Demands) (notes : Notes N S) : Type 0 where
  pub root_first : slice_get notes.origins 0 ≡ Some Root
  pub distinct : AreDistinct notes.origins
  pub encoded : AreEncoded u notes.origins notes.table notes.kinds
  pub codes : N → ℕ → S → Bool
  pub own_codes : AreCodes u codes
  pub each_true : All (IsTrueClause u codes root) notes.kinds
  pub due : AreDue u (doing.asking ++ notes.asked) notes.exempt notes.kinds
  pub installs : Contains notes.kinds InstallRoot
  -- for each requirement clause
  pub helpers : (parent : Option (By S)) (disjunct : Disjunct) (r : Requirement) → Contains notes.kinds (Requires parent disjunct r) → (v : VersionSetId) →
      Contains disjunct.items v → Contains notes.helped v
  pub packages : (parent : Option (By S)) (disjunct : Disjunct) (r : Requirement) → Contains notes.kinds (Requires parent disjunct r) → (v : VersionSetId) →
      Contains (version_sets u r) v → Contains notes.asked (u.version_set_name v)
  pub candidates : (parent : Option (By S)) (disjunct : Disjunct) (r : Requirement) → Contains notes.kinds (Requires parent disjunct r) → (s : S) →
      Contains (requirement_candidates u r) s → Contains notes.seen s
  pub once : (parent : Option (By S)) (disjunct : Disjunct) (r : Requirement) → Contains notes.kinds (Requires parent disjunct r) → AreDistinct disjunct.items
  -- for each gate
  pub gated : (r : Requirement) → Contains notes.gates r → HasGate notes.kinds r
  -- for each version set of a constraint that has a helper
  pub excluded : (v : VersionSetId) → Contains notes.constrained v → (s : S) → Contains (others u v) s → Contains notes.kinds (ImpliesKind s (Constraint v) true)
  -- for each version set of a condition that has a helper
  pub follow : (v : VersionSetId) → Contains notes.helped v → (s : S) → Contains (matching u v) s → Contains notes.kinds (ImpliesKind s (Condition v) true)
  -- for each package that was asked
  pub locks : (s t : S) → Contains notes.asked (u.name s) → (Contains (doing.owing ++ notes.exempt) s → ⊥) → (u.package_named (u.name s)).locked ≡ Some t →
      Contains (u.package_named (u.name s)).listed s → s ≢ t → Contains notes.kinds (Lock t s)
  pub exclusions : (s : S) (reason : StringId) → Contains notes.asked (u.name s) → (Contains (doing.owing ++ notes.exempt) s → ⊥) →
      Contains (u.package_named (u.name s)).excluded (s, reason) → Contains notes.kinds (Excluded s reason)
  -- for each registered solvable
  pub registered : (s : S) → Contains notes.seen s → Contains notes.origins (Solvable s)
  -- the code of a solvable is its number under its name, and it has a clause for each digit that some number under that
  -- name has
  pub placed : (n : N) (k : ℕ) (s : S) → IsAt notes.groups n k s → (i : ℕ) → codes n i s ≡ bit k i
  pub coding : (c : Coding N S) → Contains doing.coding c → (i : ℕ) → codes c.name i c.instance ≡ bit c.number i
  pub coded : (n : N) (s : S) (i : ℕ) (b : Bool) → Contains notes.kinds (ImpliesKind s (Bit n i) b) → Contains notes.seen s ⊎
      Contains (map (λ (c : Coding N S). c.instance) doing.coding) s
  pub digits : (n : N) (j k : ℕ) (s t : S) → IsAt notes.groups n j s → IsAt notes.groups n k t → (i : ℕ) → 2 ^ i ≤ k →
      Contains notes.kinds (ImpliesKind s (Bit n i) (bit j i))
  -- each registered solvable is in the group of its name, and no other solvable is in a group
  pub grouped : (s : S) → Contains notes.seen s → IsInGroup notes.groups (u.name s) s
  pub members : (n : N) (s : S) → IsInGroup notes.groups n s → (u.name s ≡ n) × Contains notes.seen s
  -- for each deferred disjunct
  pub left_true : (e : Deferred S) → IsLeft notes e → IsTrueEntry u root e
  pub indexed : (i : ℕ) (e : Deferred S) → slice_get notes.deferred i ≡ Some (Some e) → (v : VersionSetId) → Contains e.disjunct v →
      IsInGroup notes.deferred_by_name (u.version_set_name v) i

-- the notes are an encoding, and no work is in progress
abbrev pub IsEncoding : {N S : Type 0} → Universe N S → Demands → Notes N S → Type 0
IsEncoding u root notes = IsEncodingWhile u idle root notes

-- each of these solvables is exempt, or of a package that was not asked
abbrev pub MayBeExempt : {N S : Type 0} → Universe N S → Notes N S → List S → Type 0
MayBeExempt {N} {S} u notes solvables = (s : S) → Contains solvables s → Contains notes.exempt s ⊎ (Contains notes.asked (u.name s) → ⊥)

-- the notes are an encoding of a problem for which the premise holds
pub record IsEncodingOf {N S : Type 0} (u : Universe N S) (Premise : Demands → Type 0) (notes : Notes N S) : Type 0 where
  pub root : Demands
  pub premise : Premise root
  pub encoding : IsEncoding u root notes

-- the second list continues the first one
pub record Extends {X : Type 0} (xs ys : List X) : Type 0 where
  pub more : List X
  pub is : ys ≡ xs ++ more

-- The notes grew: there may be more variables, clauses, registered candidates and asked packages. The same solvables are
-- exempt.
pub record IsGrowth {N S : Type 0} (old new : Notes N S) : Type 0 where
  pub origins : Keeps old.origins new.origins
  pub table : Extends old.table new.table
  pub kinds : IsWithin old.kinds new.kinds
  pub numbered : Extends old.kinds new.kinds
  pub seen : Extends old.seen new.seen
  pub asked : IsWithin old.asked new.asked
  pub exempt : new.exempt ≡ old.exempt

-- The notes grew, and are still right for each problem for which the premise holds. No package was asked, and no
-- candidate registered. Work may be in progress.
pub record IsStepWhile {N S : Type 0} (u : Universe N S) (doing : Doing N S) (Premise : Demands → Type 0) (old new : Notes N S) : Type 0 where
  pub growth : IsGrowth old new
  pub seen : new.seen ≡ old.seen
  pub asked : new.asked ≡ old.asked
  pub helped : IsWithin old.helped new.helped
  pub gates : IsWithin old.gates new.gates
  pub constrained : IsWithin old.constrained new.constrained
  pub read : new.read ≡ old.read
  pub deferred : new.deferred ≡ old.deferred
  pub deferred_by_name : new.deferred_by_name ≡ old.deferred_by_name
  pub keeps : (root : Demands) → Premise root → IsEncodingWhile u doing root old → IsEncodingWhile u doing root new

abbrev pub IsStep : {N S : Type 0} → Universe N S → (Demands → Type 0) → Notes N S → Notes N S → Type 0
IsStep u Premise old new = IsStepWhile u idle Premise old new

-- the package was asked, or the candidate is registered
abbrev pub IsCallMade : {N S : Type 0} → Notes N S → Call N S → Type 0
IsCallMade notes (to_ask n) = Contains notes.asked n
IsCallMade notes (to_see s) = Contains notes.seen s

-- The notes grew. Only packages and candidates that are called for were asked or registered, and no disjunct was
-- deferred.
pub record IsAskStep {N S : Type 0} (u : Universe N S) (Called : Call N S → Type 0) (Premise : Demands → Type 0) (old new : Notes N S) : Type 0 where
  pub growth : IsGrowth old new
  pub called : (call : Call N S) → IsCallMade new call → IsCallMade old call ⊎ Called call
  pub read : new.read ≡ old.read
  pub deferred : new.deferred ≡ old.deferred
  pub deferred_by_name : new.deferred_by_name ≡ old.deferred_by_name
  pub keeps : (root : Demands) → Premise root → IsEncoding u root old → IsEncoding u root new

-- a disjunct of this requirer that is not met in the set
pub record IsUnmet {N S : Type 0} (u : Universe N S) (set : List S) (by : By S) (e : Deferred S) : Type 0 where
  pub of : e.by ≡ by
  pub never : AllMeet set (map (matching u) e.disjunct) → ⊥

-- The notes grew. Only packages and candidates that are called for were asked or registered, and only such disjuncts
-- were deferred.
pub record IsReadStep {N S : Type 0} (u : Universe N S) (Defers : Deferred S → Type 0) (Called : Call N S → Type 0) (Premise : Demands → Type 0)
    (old new : Notes N S) : Type 0 where
  pub growth : IsGrowth old new
  pub called : (call : Call N S) → IsCallMade new call → IsCallMade old call ⊎ Called call
  pub read : new.read ≡ old.read
  pub deferred : Extends old.deferred new.deferred
  pub defers : (e : Deferred S) → IsLeft new e → IsLeft old e ⊎ Defers e
  pub keeps : (root : Demands) → Premise root → IsEncoding u root old → IsEncoding u root new

-- the number of variables, no two of them alike, or the number of clauses is at its limit
abbrev pub IsFull : {N S : Type 0} → Notes N S → Type 0
IsFull notes = ((length notes.origins ≡ notes.variable_limit) × AreDistinct notes.origins) ⊎ (length notes.kinds ≡ notes.clause_limit)

-- nothing was read yet
pub record IsUnread {N S : Type 0} (notes : Notes N S) : Type 0 where
  pub no_origins : notes.origins ≡ []
  pub no_table : notes.table ≡ []
  pub no_kinds : notes.kinds ≡ []
  pub none_seen : notes.seen ≡ []
  pub no_groups : (n : N) (s : S) → IsInGroup notes.groups n s → ⊥
  pub none_asked : notes.asked ≡ []
  pub none_helped : notes.helped ≡ []
  pub no_gates : notes.gates ≡ []
  pub none_constrained : notes.constrained ≡ []
  pub none_read : notes.read ≡ []
  pub none_deferred : notes.deferred ≡ []

-- literals with these atoms were appended
pub record Adds {N S : Type 0} (origins : List (Origin N S)) (old new : List Literal) (atoms : List (Atom N S)) : Type 0 where
  pub added : List Literal
  pub is : new ≡ old ++ added
  pub are : AllZip (IsAtom origins) added atoms

-- each variable keeps its origin, and distinct origins stay distinct
pub record Grows {N S : Type 0} (old new : List (Origin N S)) : Type 0 where
  pub keeps : Keeps old new
  pub distinct : AreDistinct old → AreDistinct new

-- one more clause was added, with the literals of its kind
pub record AddsKind {N S : Type 0} (u : Universe N S) (kind : ClauseKind N S) (old new : Notes N S) : Type 0 where
  pub origins : Grows old.origins new.origins
  pub literals : List Literal
  pub clause : IsClauseOf u new.origins literals kind
  pub is : new ≡ record old {
    origins = new.origins;
    table = old.table ++ literals ∷ [];
    kinds = old.kinds ++ kind ∷ [];
  }

-- what it means that requirements, constraints and demands were read
module _ {N S : Type 0} (u : Universe N S) (kinds : List (ClauseKind N S)) where
  -- clauses forbid each candidate outside the constraint's version set
  abbrev pub IsConstraintRead : By S → VersionSetId → Type 0
  IsConstraintRead by v = All (IsForbidden kinds by v) (others u v)

-- the requirement has its clause under the disjunct, or that is deferred
abbrev pub IsEntryRead : {N S : Type 0} → Notes N S → Deferred S → Type 0
IsEntryRead notes e = HasClause notes.kinds e.by e.disjunct e.requirement ⊎ IsLeft notes e

-- the requirement has its clauses under the disjunct, without repeats, or that disjunct is deferred
pub record IsDisjunctRead {N S : Type 0} (notes : Notes N S) (by : By S) (requirement : Requirement) (list : List VersionSetId) : Type 0 where
  pub kept : List VersionSetId
  pub same : HaveSameMembers kept list
  pub either : IsEntryRead notes (record { by = by; disjunct = kept; requirement = requirement })

-- the packages of these version sets were asked
abbrev pub AreNamesAsked : {N S : Type 0} → Universe N S → Notes N S → List VersionSetId → Type 0
AreNamesAsked u notes list = All (λ v. Contains notes.asked (u.version_set_name v)) list

-- the demands of the root or of a solvable have their clauses, except for deferred disjuncts
pub record AreDemandsRead {N S : Type 0} (u : Universe N S) (notes : Notes N S) (by : By S) (demands : Demands) : Type 0 where
  pub requirements : All (IsReadRequirement u notes.kinds (IsLeft notes) by) demands.requirements
  pub constraints : All (IsConstraintRead u notes.kinds by) demands.constraints
  pub packages : AreNamesAsked u notes demands.constraints

-- the demands of a solvable have their clauses; if they are unknown, a clause excludes the solvable
abbrev pub AreNeedsRead : {N S : Type 0} → Universe N S → Notes N S → S → Needs → Type 0
AreNeedsRead u notes s (known d) = AreDemandsRead u notes (BySolvable s) d
AreNeedsRead u notes s (unknown reason) = Contains notes.kinds (Excluded s reason)

-- a clause forbids each listed candidate other than the locked one, unless that candidate is exempt
abbrev pub IsLockRead : {N S : Type 0} → List (ClauseKind N S) → List S → Option S → List S → Type 0
IsLockRead kinds exempt None listed = ⊤
IsLockRead kinds exempt (Some t) listed = All (λ s. s ≢ t → (Contains exempt s → ⊥) → Contains kinds (Lock t s)) listed

-- the disjuncts of a condition, of which one has to be met; without a condition, a single empty disjunct
abbrev pub AreDisjuncts : {N S : Type 0} → Universe N S → Option ConditionId → List (List VersionSetId) → Type 0
AreDisjuncts u None lists = lists ≡ [] ∷ []
AreDisjuncts u (Some c) lists = IsDisjunctive u c lists

-- the root or the solvable has the requirement; or the constraint
abbrev pub HasRequirement : {N S : Type 0} → Universe N S → By S → ConditionalRequirement → Demands → Type 0
HasRequirement u by r root = Contains (demands_by u root by).requirements r

abbrev pub HasConstraint : {N S : Type 0} → Universe N S → By S → VersionSetId → Demands → Type 0
HasConstraint u by v root = Contains (demands_by u root by).constraints v

-- the same for a requirement of a solvable without a condition, and for each of some requirements or constraints
abbrev pub HasPlainRequirement : {N S : Type 0} → Universe N S → S → Requirement → Demands → Type 0
HasPlainRequirement u s r root = HasRequirement u (BySolvable s) (record { condition = None; requirement = r }) root

abbrev pub HasRequirements : {N S : Type 0} → Universe N S → By S → List ConditionalRequirement → Demands → Type 0
HasRequirements u by rs root = All (λ r. HasRequirement u by r root) rs

abbrev pub HasConstraints : {N S : Type 0} → Universe N S → By S → List VersionSetId → Demands → Type 0
HasConstraints u by vs root = All (λ v. HasConstraint u by v root) vs
